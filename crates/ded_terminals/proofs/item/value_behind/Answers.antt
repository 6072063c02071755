use Rattle.std.proofs.Common.{◌∙◌, arith}
use Rattle.ded_terminals.proofs.Numbers.{value_step}
use Rattle.ded_terminals.proofs.item.value_behind.Goals as goal

pub loop-byte-preserved : goal.loop-byte-preserved
loop-byte-preserved c = record {
  value = value_step _ _ _ _ c.loop-byte-test.true (omega arith) ∙ c.loop-byte.invariant.value;
  least = omega arith;
}
