use Rattle.std.proofs.Common.{◌≡◌, map, drop, ◌∷◌}
use Rattle.std.specs.Prelude.{pos, unsigned_abs}
use Rattle.ded_num.specs.Length.{IsShort}
use Rattle.ded_num.specs.Gcd.{gcd_from, gcd_all}
use Rattle.ded_row.proofs.lowest.common_divisor.Given as goal

abbrev pub invariant-loop-coef : goal.invariant-loop-coef
invariant-loop-coef l = record {
  short : IsShort l.size;
  positive : l.size ≡ pos (unsigned_abs l.size);
  rest : gcd_from (unsigned_abs l.size) (map (λ c. c.1) (drop l.coef-index l.coefs)) ≡ gcd_all (l.constant ∷ map (λ c. c.1) l.coefs);
}
