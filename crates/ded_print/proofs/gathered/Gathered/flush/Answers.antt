-- What is pending is sent.
use Rattle.ded_print.proofs.Gathering.{sends_pending}
use Rattle.ded_print.proofs.gathered.Gathered.flush.Goals as goal

pub returns-clause-puts : goal.returns-clause-puts
returns-clause-puts g c = rw c.clear.ensures (sends_pending _ _ _ _ _ _ _ (rw c.as_slice.ensures.value at c.send_after-self.ensures))
