use Rattle.std.proofs.Common.{◌∙◌, arith}
use Rattle.ded_terminals.proofs.Decimals.{power_step}
use Rattle.ded_terminals.proofs.decimal.power_of_ten.Goals as goal

pub loop-preserved : goal.loop-preserved
loop-preserved c = record {
  value = power_step c.loop.power c.min-power.result c.args.digits.now c.loop.index c.loop-test.true (omega arith) ∙ c.loop.invariant.value;
  least = omega arith;
  positive = omega (arith, c.loop.invariant.positive);
}
