use Rattle.ded_print.proofs.QuotedTexts.{one_answer}
use Rattle.ded_print.proofs.laws.one_answer.Goals as goal

pub returns : goal.returns
returns c = one_answer
