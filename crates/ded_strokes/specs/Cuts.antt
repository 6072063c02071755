-- Where a border cuts the way between two spots of another one.
use Rattle.std.specs.Prelude.{◌≡◌, ℕ, ◌<◌, pos, false}
use Rattle.ded_polygon.specs.Plane.{Spot, IsSameSpot, level}
use Rattle.ded_strokes.specs.Bounds.{PlaneLimit}
use Rattle.ded_strokes.specs.Strokes.{between, parts_levels}

-- the spot is a point strictly between two others
pub record LiesBetween (p q c : Spot) : Type 0 where
  pub i : ℕ
  pub j : ℕ
  pub some_i : 0 < i
  pub some_j : 0 < j
  pub is : IsSameSpot c (between p q i j)

-- the spot is on both borders and strictly between the two others, and a border that is not crossed between those is not crossed
-- between one of them and the spot
pub record IsCut (side other : PlaneLimit) (p q c : Spot) : Type 0 where
  pub on_side : level side.plane c ≡ pos 0
  pub on_other : level other.plane c ≡ pos 0
  pub inside : LiesBetween p q c
  pub before : (r : PlaneLimit) → parts_levels (level r.plane p) (level r.plane q) ≡ false → parts_levels (level r.plane p) (level r.plane c) ≡ false
  pub behind : (r : PlaneLimit) → parts_levels (level r.plane p) (level r.plane q) ≡ false → parts_levels (level r.plane c) (level r.plane q) ≡ false
