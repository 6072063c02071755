use Rattle.std.proofs.Common.{arith}
use Rattle.std.specs.Prelude.{pos}
use Rattle.ded_model.specs.declared.slot.Sort.TheVariants.{Rat}
use Rattle.ded_cert.proofs.Below.{below_more}
use Rattle.ded_cert.proofs.tracing.above.Goals as goal

pub loop-slot-preserved : goal.loop-slot-preserved
loop-slot-preserved c = record {
  least = omega (arith, c.loop-slot.invariant.least, c.past-number.ensures.least);
  above = λ h.
      below_more c.loop-slot.number c.past-number.result c.args.coefs.now c.loop-slot.slot-index (record { number = 0; sort = Rat }, pos 0) c.loop-slot-test.true c.past-number.ensures.least
      (c.loop-slot.invariant.above (omega (arith, h, c.past-number.ensures.least))) (c.past-number.ensures.above h);
}
