use Rattle.ded_dialogue.proofs.Feeding.{on_err, grows_breaks, breaks_on}
use Rattle.ded_run.proofs.Making.{err_on}
use Rattle.ded_run.proofs.made.feed_statement.Goals as goal

pub returns-in_err-feed_parts-clause-breaks : goal.returns-in_err-feed_parts-clause-breaks
returns-in_err-feed_parts-clause-breaks g c = on_err _ _ (breaks_on _ _ _ _ _ _ _ c.in_err-feed_parts.ensures.breaks)

pub returns-clause-breaks : goal.returns-clause-breaks
returns-clause-breaks g c = err_on _ _ _ (λ b. grows_breaks _ _ _ _ _ _ _ _ _ c.in_ok-feed_parts.ensures.grows b) c.feed.ensures.breaks
