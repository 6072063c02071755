use Rattle.std.proofs.Common.{◌∙◌, arith}
use Rattle.ded_shared.proofs.Numerals.{value_step}
use Rattle.ded_shared.proofs.tag.value_of.Goals as goal

pub loop-byte-preserved : goal.loop-byte-preserved
loop-byte-preserved c = record {
  value = value_step _ _ _ _ c.loop-byte-test.true (omega arith) ∙ c.loop-byte.invariant.value;
  least = omega arith;
}
