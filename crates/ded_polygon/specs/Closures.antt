-- Points of the closure of rows over two slots, and its corners.
use Rattle.std.specs.Prelude.{◌≡◌, ◌≢◌, ◌⊎◌, ℤ, pos, ◌+ℤ◌, ◌*ℤ◌, ◌<ℤ◌, unsigned_abs, Bool, true, List, [], ◌∷◌}
use Rattle.ded_num.specs.Length.{IsWithin}
use Rattle.ded_model.specs.declared.slot.Slot.{Slot}
use Rattle.ded_model.specs.declared.row.RowOp.{RowOp}
use Rattle.ded_model.specs.declared.row.RowOp.TheVariants.{Zero, AtMost, Below}
use Rattle.ded_model.specs.Constraint.{LinearConstraint}
use Rattle.ded_model.specs.Coefs.{coef_at}
use Rattle.ded_model.specs.Point.{Point, slot, number, number_at, same_slot}
use Rattle.ded_model.specs.Row.{row_at, row_holds, row_mentions}
use Rattle.ded_polygon.specs.Plane.{Spot, In}

-- `<` read as `<=`
abbrev pub weakened : RowOp → RowOp
weakened Zero = Zero
weakened AtMost = AtMost
weakened Below = AtMost

-- the row with `<` read as `<=` holds at the point
abbrev pub holds_weakly : LinearConstraint → Point → Bool
holds_weakly r p = row_holds (record { coefs = r.coefs; constant = r.constant; op = weakened r.op }) p

-- the point is in the closure of the rows: each with `<` read as `<=` holds there
abbrev pub IsInClosure : List LinearConstraint → Point → Type 0
IsInClosure rows p = (r : LinearConstraint) → In r rows → holds_weakly r p ≡ true

-- the row mentions no other slot than x and y
abbrev pub MentionsOnly : Slot → Slot → LinearConstraint → Type 0
MentionsOnly x y r = (s : Slot) → row_mentions r s ≡ true → (same_slot s x ≡ true) ⊎ (same_slot s y ≡ true)

-- so does each of the rows
abbrev pub MentionOnly : Slot → Slot → List LinearConstraint → Type 0
MentionOnly x y rows = (r : LinearConstraint) → In r rows → MentionsOnly x y r

-- the lines of the two rows are parallel, or one of them is no line
abbrev pub AreParallel : Slot → Slot → LinearConstraint → LinearConstraint → Type 0
AreParallel x y r q = coef_at r.coefs x *ℤ coef_at q.coefs y ≡ coef_at r.coefs y *ℤ coef_at q.coefs x

-- the row is an equality at the point
abbrev pub IsTight : LinearConstraint → Point → Type 0
IsTight r p = row_at r p ≡ pos 0

-- the point is in the closure of the rows, and two rows that are not parallel are equalities there
pub record IsCornerPoint (x y : Slot) (rows : List LinearConstraint) (p : Point) : Type 0 where
  pub closure : IsInClosure rows p
  pub first : LinearConstraint
  pub first_in : In first rows
  pub at_first : IsTight first p
  pub second : LinearConstraint
  pub second_in : In second rows
  pub at_second : IsTight second p
  pub apart : AreParallel x y first second → ⊥

-- how fast the row's sum grows in a direction
abbrev pub growth : Slot → Slot → LinearConstraint → ℤ → ℤ → ℤ
growth x y r u v = coef_at r.coefs x *ℤ u +ℤ coef_at r.coefs y *ℤ v

-- a row by that op, whose sum grows so, is left at last
abbrev pub IsLeft : RowOp → ℤ → Type 0
IsLeft Zero z = z ≢ pos 0
IsLeft AtMost z = pos 0 <ℤ z
IsLeft Below z = pos 0 <ℤ z

-- in each direction some row is left at last
abbrev pub AreBounded : Slot → Slot → List LinearConstraint → Type 0
AreBounded x y rows = (u v : ℤ) → (u ≡ pos 0 → v ≡ pos 0 → ⊥) → (r : LinearConstraint) × In r rows × IsLeft r.op (growth x y r u v)

-- the numbers of the row are within the exact range: coefficients below 2 ^ 31 in size, and a constant below 2 ^ 62
pub record IsInRange (x y : Slot) (r : LinearConstraint) : Type 0 where
  pub at_x : IsWithin 31 (coef_at r.coefs x)
  pub at_y : IsWithin 31 (coef_at r.coefs y)
  pub constant : IsWithin 62 r.constant

-- so are those of each row
abbrev pub AreInRange : Slot → Slot → List LinearConstraint → Type 0
AreInRange x y rows = (r : LinearConstraint) → In r rows → IsInRange x y r

-- the point of a spot, with its coordinates at x and y
abbrev pub point_at : Slot → Slot → Spot → Point
point_at x y c = record { den = unsigned_abs c.den; coords = (slot x, number c.x) ∷ (slot y, number c.y) ∷ [] }

-- the spot of a point, by its coordinates at x and y
abbrev pub spot_of : Slot → Slot → Point → Spot
spot_of x y p = record { x = number_at p (slot x); y = number_at p (slot y); den = pos p.den }

-- the point has the coordinates of the spot at x and y
pub record StandsAt (x y : Slot) (p : Point) (c : Spot) : Type 0 where
  pub at_x : number_at p (slot x) *ℤ c.den ≡ c.x *ℤ pos p.den
  pub at_y : number_at p (slot y) *ℤ c.den ≡ c.y *ℤ pos p.den
