use Rattle.std.proofs.Common.{arith}
use Rattle.ded_drawing.proofs.Sighted.{goes_next, goes_last}
use Rattle.ded_drawing.proofs.sighting.sights_of.Goals as goal

pub loop-reply-preserved : goal.loop-reply-preserved
loop-reply-preserved c = goes_next c.args.look.now c.args.replies.now c.args.replies.now c.loop-reply.reply-index c.reply-item.result _ _ c.loop-reply-test.true c.reply-item.is c.loop-reply.invariant c.in_ok-add_sights_of.ensures

pub returns : goal.returns
returns c = goes_last c.args.look.now c.args.replies.now c.args.replies.now c.loop-reply.reply-index _ (omega (arith, c.loop-reply-test.false)) c.loop-reply.invariant
