-- The corners of rows over two slots, as a list.
use Rattle.std.specs.Prelude.{◌≡◌, ◌≢◌, ℕ, ◌<◌, ℤ, pos, ◌-ℤ◌, ◌*ℤ◌, ◌<ℤ◌, ◌≤ℤ◌, List, length}
use Rattle.ded_model.specs.declared.slot.Slot.{Slot}
use Rattle.ded_model.specs.Constraint.{LinearConstraint}
use Rattle.ded_model.specs.Point.{Point, slot, number_at}
use Rattle.ded_polygon.specs.Plane.{Spot, In, turn}
use Rattle.ded_polygon.specs.Lists.{spot_in, after, AreDifferent}
use Rattle.ded_polygon.specs.Closures.{IsInClosure, IsCornerPoint, IsTight, spot_of, point_at, StandsAt}

-- the spots of the list are exactly the corners of the rows, each once
pub record AreCorners (x y : Slot) (rows : List LinearConstraint) (cs : List Spot) : Type 0 where
  pub positive : (k : ℕ) → k < length cs → pos 0 <ℤ (spot_in cs k).den
  pub sound : (k : ℕ) → k < length cs → IsCornerPoint x y rows (point_at x y (spot_in cs k))
  pub complete : (p : Point) → 0 < p.den → IsCornerPoint x y rows p → (k : ℕ) × (k < length cs) × StandsAt x y p (spot_in cs k)
  pub once : AreDifferent cs

-- some row is an equality at both spots
pub record ShareBorder (x y : Slot) (rows : List LinearConstraint) (c d : Spot) : Type 0 where
  pub row : LinearConstraint
  pub row_in : In row rows
  pub at_first : IsTight row (point_at x y c)
  pub at_second : IsTight row (point_at x y d)

-- the list goes around counterclockwise: each of two corners or more shares a border with the next, the last with the first,
-- and each other corner is strictly to the left of the way from it to the next
pub record GoAround (x y : Slot) (rows : List LinearConstraint) (cs : List Spot) : Type 0 where
  pub neighbours : 1 < length cs → (k : ℕ) → k < length cs → ShareBorder x y rows (spot_in cs k) (spot_in cs (after (length cs) k))
  pub left : (k j : ℕ) → k < length cs → j < length cs → j ≢ k → j ≢ after (length cs) k → pos 0 <ℤ turn (spot_in cs k) (spot_in cs (after (length cs) k)) (spot_in cs j)

-- the middle one of three fractions lies between the others, or is one of them
abbrev pub IsBetween : ℤ → ℤ → ℤ → ℤ → ℤ → ℤ → Type 0
IsBetween n1 d1 n d n2 d2 = pos 0 ≤ℤ ((n *ℤ d1 -ℤ n1 *ℤ d) *ℤ (n2 *ℤ d -ℤ n *ℤ d2))

-- the point's coordinates at x and y lie between those of two spots
pub record LiesBetween (x y : Slot) (c : Spot) (p : Point) (d : Spot) : Type 0 where
  pub at_x : IsBetween c.x c.den (number_at p (slot x)) (pos p.den) d.x d.den
  pub at_y : IsBetween c.y c.den (number_at p (slot y)) (pos p.den) d.y d.den

-- what the corners tell of the closure: without a corner nothing is in it, with one alone that one; what is in it lies to the left
-- of each way from a corner to the next or on it, with two corners between them, and where there are three or more, nothing else does
pub record IsOutline (x y : Slot) (rows : List LinearConstraint) (cs : List Spot) : Type 0 where
  pub none : length cs ≡ 0 → (p : Point) → 0 < p.den → IsInClosure rows p → ⊥
  pub one : length cs ≡ 1 → (p : Point) → 0 < p.den → IsInClosure rows p → StandsAt x y p (spot_in cs 0)
  pub inside : 1 < length cs → (p : Point) → 0 < p.den → IsInClosure rows p → (k : ℕ) → k < length cs
      → pos 0 ≤ℤ turn (spot_in cs k) (spot_in cs (after (length cs) k)) (spot_of x y p)
  pub between : length cs ≡ 2 → (p : Point) → 0 < p.den → IsInClosure rows p → LiesBetween x y (spot_in cs 0) p (spot_in cs 1)
  pub outside : 2 < length cs → (p : Point) → 0 < p.den
      → ((k : ℕ) → k < length cs → pos 0 ≤ℤ turn (spot_in cs k) (spot_in cs (after (length cs) k)) (spot_of x y p)) → IsInClosure rows p
