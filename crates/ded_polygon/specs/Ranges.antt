-- How long the numbers of half planes and corners are.
use Rattle.std.specs.Prelude.{pos, ◌<ℤ◌}
use Rattle.ded_num.specs.Length.{IsWithin}
use Rattle.ded_polygon.specs.Plane.{HalfPlane, Spot}

-- coefficients below 2 ^ 31 in size, and a constant below 2 ^ 62
pub record IsShortSide (s : HalfPlane) : Type 0 where
  pub a : IsWithin 31 s.a
  pub b : IsWithin 31 s.b
  pub c : IsWithin 62 s.c

-- what crossings of such half planes have
pub record IsShortSpot (p : Spot) : Type 0 where
  pub x : IsWithin 94 p.x
  pub y : IsWithin 94 p.y
  pub den : IsWithin 63 p.den
  pub positive : pos 0 <ℤ p.den
