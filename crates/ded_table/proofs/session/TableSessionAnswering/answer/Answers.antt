use Rattle.ded_session.specs.Answered.{reply_form}
use Rattle.ded_session.specs.State.{catalogue_in, state_in, language_in}
use Rattle.ded_run.specs.OneSession.{standing_in}
use Rattle.ded_table.specs.Saying.{said_by}
use Rattle.ded_table.proofs.Replies.{reply_over, tables_piece}
use Rattle.ded_table.proofs.session.TableSessionAnswering.answer.Goals as goal

pub tabled-requires : goal.tabled-requires
unfolding catalogue_in state_in
tabled-requires c =
    reply_over (catalogue_in c.args.self.now.session) (catalogue_in c.step-reply.new.self) c.sound.ensures.formed c.args.piece (language_in c.args.self.now.session) (reply_form c.step-reply.result) c.step-reply.ensures.step

pub returns : goal.returns
returns c =
    tables_piece c.args.piece (standing_in c.args.self.now.session) (standing_in c.step-reply.new.self) (reply_form c.step-reply.result) (said_by c.tabled.result)
    c.step-reply.ensures.step c.step-reply.ensures.language c.tabled.ensures
