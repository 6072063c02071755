use Rattle.std.proofs.Common.{refl}
use Rattle.ded_print.specs.Tuples.{answer_text}
use Rattle.ded_readback.proofs.AnswersRead.{one_list}
use Rattle.ded_readback.proofs.laws.printed_answers.Goals as goal

pub returns-clause-only : goal.returns-clause-only
returns-clause-only c = λ h ts us plain each s. one_list (answer_text h ts) h us ts plain s (record { each = each; text = refl })
