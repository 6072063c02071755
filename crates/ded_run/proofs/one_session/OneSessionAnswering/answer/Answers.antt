use Rattle.ded_session.specs.Answered.{reply_form}
use Rattle.ded_run.specs.OneSession.{standing_in}
use Rattle.ded_run.proofs.Steps.{answers_piece}
use Rattle.ded_run.proofs.one_session.OneSessionAnswering.answer.Goals as goal

pub returns : goal.returns
returns c = answers_piece c.args.piece (standing_in c.args.self.now.session) (standing_in c.step.new.self) (reply_form c.step.result) c.step.ensures.step c.step.ensures.language
