-- What the program reads of corners.
use Rattle.std.proofs.Common.{◌≡◌, arith, to_z, of_z}
use Rattle.std.specs.Int.{w128}
use Rattle.ded_num.specs.Length.{IsShort}
use Rattle.ded_num.proofs.Signs.{short_in_code}
use Rattle.ded_model.specs.Bound.{Fraction}
use Rattle.ded_model.proofs.Given.{fraction_with}
use Rattle.ded_polygon.specs.Plane.{Spot}
use Rattle.ded_polygon.specs.Ranges.{IsShortSpot}

module _ (p : Spot) (h : IsShortSpot p) where
  short_x : IsShort p.x
  short_x = let k = h.x in omega arith

  short_y : IsShort p.y
  short_y = let k = h.y in omega arith

  short_den : IsShort p.den
  short_den = let k = h.den in omega arith

  pub read_x : ◌≡◌ {A = Fraction} (record { num = to_z w128 (of_z w128 p.x); den = to_z w128 (of_z w128 p.den) }) (record { num = p.x; den = p.den })
  read_x = fraction_with _ _ _ _ (short_in_code p.x short_x) (short_in_code p.den short_den)

  pub read_y : ◌≡◌ {A = Fraction} (record { num = to_z w128 (of_z w128 p.y); den = to_z w128 (of_z w128 p.den) }) (record { num = p.y; den = p.den })
  read_y = fraction_with _ _ _ _ (short_in_code p.y short_y) (short_in_code p.den short_den)
