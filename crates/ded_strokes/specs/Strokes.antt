-- How the points between two spots of a border are drawn.
use Rattle.std.specs.Prelude.{◌≡◌, ℕ, ◌<◌, ℤ, pos, ◌+ℤ◌, ◌*ℤ◌, int_lt, ◌&&◌, ◌||◌, Bool, true, false, List, if◌then◌else◌}
use Rattle.std.specs.List.{list_all, list_any}
use Rattle.std.specs.Ordering.{int_eq}
use Rattle.ded_model.specs.Row.{sign_meets}
use Rattle.ded_polygon.specs.Plane.{Spot, level}
use Rattle.ded_strokes.specs.Bounds.{PlaneLimit, union_holds}
use Rattle.ded_strokes.specs.Near.{Direction, Near, turned, growth, soon}
use Rattle.ded_strokes.specs.declared.stretch.Stroke.{Stroke}
use Rattle.ded_strokes.specs.declared.stretch.Stroke.TheVariants.{Seam, Solid, Dashed}

-- a point between two spots, by how much of each: with i and j above 0 each point strictly between them is such a one, as the middle with
-- the denominator of q for i and that of p for j
unfoldable pub between : Spot → Spot → ℕ → ℕ → Spot
between p q i j = record { x = pos i *ℤ p.x +ℤ pos j *ℤ q.x; y = pos i *ℤ p.y +ℤ pos j *ℤ q.y; den = pos i *ℤ p.den +ℤ pos j *ℤ q.den }

-- the pieces go on across the border at the point: it is in them, and so are the points as near as one likes on both sides
pub record IsSeam (pieces : List (List PlaneLimit)) (w : Direction) (m : Spot) : Type 0 where
  pub holds : union_holds pieces m ≡ true
  pub ahead : Near (union_holds pieces) m w
  pub behind : Near (union_holds pieces) m (turned w)

-- a seam, else solid where the point is in the pieces, and dashed where it is not
abbrev pub HasStroke : List (List PlaneLimit) → Direction → Spot → Stroke → Type 0
HasStroke pieces w m Seam = IsSeam pieces w m
HasStroke pieces w m Solid = (union_holds pieces m ≡ true) × (IsSeam pieces w m → ⊥)
HasStroke pieces w m Dashed = union_holds pieces m ≡ false

-- each point strictly between the spots has the stroke
abbrev pub HaveStroke : List (List PlaneLimit) → Direction → Spot → Spot → Stroke → Type 0
HaveStroke pieces w p q s = (i j : ℕ) → 0 < i → 0 < j → HasStroke pieces w (between p q i j) s

-- ---- how it is told

-- the border of the limit is crossed between the spots
abbrev pub parts_levels : ℤ → ℤ → Bool
parts_levels z y = (int_lt z (pos 0) && int_lt (pos 0) y) || (int_lt (pos 0) z && int_lt y (pos 0))

-- the border of some limit of some piece is crossed between the spots
abbrev pub is_parted : List (List PlaneLimit) → Spot → Spot → Bool
is_parted pieces p q = list_any (λ bs. list_any (λ b. parts_levels (level b.plane p) (level b.plane q)) bs) pieces

-- a number with the sign of the level at each point between, where the border is not crossed there
abbrev pub first_level : ℤ → ℤ → ℤ
first_level z y = if int_eq z (pos 0) then y else z

-- such a number for the limit, from its levels at the two spots
abbrev pub level_between : PlaneLimit → Spot → Spot → ℤ
level_between b p q = first_level (level b.plane p) (level b.plane q)

-- some piece holds between the spots
abbrev pub union_between : List (List PlaneLimit) → Spot → Spot → Bool
union_between pieces p q = list_any (λ bs. list_all (λ b. sign_meets b.op (level_between b p q)) bs) pieces

-- some piece holds soon after each point between the spots
abbrev pub union_soon : List (List PlaneLimit) → Spot → Spot → Direction → Bool
union_soon pieces p q w = list_any (λ bs. list_all (λ b. soon b.op (level_between b p q) (growth b.plane w)) bs) pieces
