use Rattle.ded_readback.proofs.AnswersRead.{one_list}
use Rattle.ded_readback.proofs.laws.one_answer.Goals as goal

pub returns : goal.returns
returns c = one_list
