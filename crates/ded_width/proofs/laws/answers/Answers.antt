use Rattle.ded_width.proofs.AnswerReaches.{answer_narrow}
use Rattle.ded_width.proofs.laws.answers.Goals as goal

pub returns : goal.returns
returns c = answer_narrow
