use Rattle.std.proofs.Common.{arith}
use Rattle.std.proofs.lemmas.Nat.Gcd.{IsGcd-from_zero, IsGcd-from_mod}
use Rattle.ded_num.proofs.divisor.gcd_of.Goals as goal

pub loop-y-preserved : goal.loop-y-preserved
loop-y-preserved c = record {
  divisor = λ g h. c.loop-y.invariant.divisor g (IsGcd-from_mod _ _ g h);
  short_x = c.loop-y.invariant.short_y;
  short_y = omega (arith, c.loop-y.invariant.short_y);
}

pub returns-clause-value : goal.returns-clause-value
returns-clause-value c = c.loop-y.invariant.divisor _ (IsGcd-from_zero _ _ (omega arith))
