use Rattle.ded_dialogue.proofs.Feeding.{on_err}
use Rattle.ded_run.proofs.Making.{breaks_part}
use Rattle.ded_run.proofs.made.feed_parts.Goals as goal

pub returns-in_err-feed_part-clause-breaks : goal.returns-in_err-feed_part-clause-breaks
returns-in_err-feed_part-clause-breaks g c =
    on_err _ _ (breaks_part _ _ _ _ _ _ _ _ _ _ c.loop-part-test.true c.loop-part.invariant.fed c.in_err-feed_part.ensures.breaks)
