use Rattle.ded_shared.proofs.Culprits.{conflict_culprit, conflict_least, done_free}
use Rattle.ded_shared.proofs.laws.conflicts.Goals as goal

pub returns-clause-culprit : goal.returns-clause-culprit
returns-clause-culprit c = λ limit statements xs replies statement k s t n are steps is p. conflict_culprit limit statements xs replies statement k s t are steps is n p

pub returns-clause-least : goal.returns-clause-least
returns-clause-least c = λ limit statements xs replies statement k s t n m x are steps is p. conflict_least limit statements xs replies statement k s t are steps is n m x p

pub returns-clause-free : goal.returns-clause-free
returns-clause-free c = λ limit statements xs replies statement k s t n x are steps is p. done_free limit statements xs replies statement k s t are steps is n x p
