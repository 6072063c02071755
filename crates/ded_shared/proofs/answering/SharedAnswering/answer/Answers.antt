use Rattle.ded_shared.specs.Answered.{shared_form}
use Rattle.ded_shared.specs.Parts.{state_of}
use Rattle.ded_shared.proofs.Stepping.{answers_piece}
use Rattle.ded_shared.proofs.answering.SharedAnswering.answer.Goals as goal

pub returns : goal.returns
returns c = answers_piece c.args.piece (state_of c.args.self.now) (state_of c.step.new.self) (shared_form c.step.result) c.step.ensures.answered
