-- The steps of `send` that the search leaves.
use Rattle.std.proofs.Common.{◌∙◌}
use Rattle.ded_io.proofs.Steps.{sent_more}
use Rattle.ded_io.proofs.device.send.Goals as goal

-- one more piece was taken
pub loop-rest-preserved : goal.loop-rest-preserved
loop-rest-preserved g c = record {
  sent = sent_more _ _ _ _ _ _ c.loop-rest.invariant.sent c.in_ok-taken.ensures.bytes;
  done = c.in_ok-taken.ensures.cause.done ∙ c.loop-rest.invariant.done;
}
