use Rattle.ded_progress.proofs.Answering.{answered, replied}
use Rattle.ded_progress.proofs.laws.progress.Goals as goal

pub returns-clause-answers : goal.returns-clause-answers
returns-clause-answers c = answered c.normal_goals.ensures.accepted

pub returns-clause-replies : goal.returns-clause-replies
returns-clause-replies c = replied c.normal_goals.ensures.accepted
