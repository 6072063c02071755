-- Vertices and edges of the points that lie in some half planes.
use Rattle.std.specs.Prelude.{◌≡◌, pos, ◌<ℤ◌, ◌≤ℤ◌, List}
use Rattle.ded_polygon.specs.Plane.{HalfPlane, Spot, In, level, bend}

-- the spot lies in each of the half planes
abbrev pub LiesIn : List HalfPlane → Spot → Type 0
LiesIn ss p = (t : HalfPlane) → In t ss → level t p ≤ℤ pos 0

-- the spot lies in each of the half planes, and on the borders of two of them that cross
pub record IsVertex (ss : List HalfPlane) (p : Spot) : Type 0 where
  pub positive : pos 0 <ℤ p.den
  pub inside : LiesIn ss p
  pub first : HalfPlane
  pub first_in : In first ss
  pub on_first : level first p ≡ pos 0
  pub second : HalfPlane
  pub second_in : In second ss
  pub on_second : level second p ≡ pos 0
  pub crossed : pos 0 <ℤ bend first second

-- a half plane that the way along the border of another one, with that to its left, leads out of at q, and not before
pub record IsStop (ss : List HalfPlane) (side : HalfPlane) (p q : Spot) : Type 0 where
  pub stop : HalfPlane
  pub stop_in : In stop ss
  pub before : level stop p <ℤ pos 0
  pub reached : level stop q ≡ pos 0
  pub leaves : pos 0 <ℤ bend side stop

-- the way along the border of a half plane, with that to its left, leads from p to q and there out of another one
pub record IsEdge (ss : List HalfPlane) (p q : Spot) : Type 0 where
  pub side : HalfPlane
  pub side_in : In side ss
  pub begins : level side p ≡ pos 0
  pub ends : level side q ≡ pos 0
  pub stop : HalfPlane
  pub stop_in : In stop ss
  pub before : level stop p <ℤ pos 0
  pub reached : level stop q ≡ pos 0
  pub leaves : pos 0 <ℤ bend side stop

-- each direction leads out of one of the half planes
abbrev pub IsEnclosed : List HalfPlane → Type 0
IsEnclosed ss = (s : HalfPlane) → (s.a ≡ pos 0 → s.b ≡ pos 0 → ⊥) → (t : HalfPlane) × In t ss × (pos 0 <ℤ bend s t)
