-- What is read is answered as its command; what isn't is refused by its bytes.
use Rattle.std.proofs.Common.{refl}
use Rattle.ded_model.specs.Command.{command_form}
use Rattle.ded_database.specs.State.{catalogue_at}
use Rattle.ded_session.specs.Answered.{reply_form}
use Rattle.ded_session.proofs.StepLemmas.{read_short, read_plain, read_named, step_read, may_refuse}
use Rattle.ded_session.proofs.Upheld.{upholds_read, upholds_unread}
use Rattle.ded_session.proofs.statement.reply_to.Goals as goal

pub answer-requires : goal.answer-requires
answer-requires c =
    let x = command_form c.in-Ok.command in
    let read = c.in-Ok.ensures.read in
    record {
      plain = read_plain c.args.language c.args.bytes.now x read;
      short = read_short c.args.language c.args.bytes.now x read;
      named = read_named c.args.language c.args.bytes.now x read;
    }

pub returns-in-Ok-clause-step : goal.returns-in-Ok-clause-step
returns-in-Ok-clause-step c =
    step_read c.args.language c.args.bytes.now (catalogue_at c.args.database.now) c.requires.short (command_form c.in-Ok.command) c.in-Ok.ensures.read c.requires.other (reply_form c.answer.result) (catalogue_at c.answer.new.database) c.answer.ensures.answers

pub returns-in-Err-clause-step : goal.returns-in-Err-clause-step
returns-in-Err-clause-step c = (may_refuse c.args.language c.args.bytes.now (catalogue_at c.args.database.now) c.requires.short c.in-Err.refusal c.requires.other c.in-Err.ensures.refused, refl)

pub returns-in-Ok-clause-upholds : goal.returns-in-Ok-clause-upholds
returns-in-Ok-clause-upholds c = upholds_read c.args.language c.args.bytes.now (command_form c.in-Ok.command) c.in-Ok.ensures.read (reply_form c.answer.result) c.args.database.now c.answer.new.database c.answer.ensures.upholds

pub returns-in-Err-clause-upholds : goal.returns-in-Err-clause-upholds
returns-in-Err-clause-upholds c = upholds_unread c.args.language c.args.bytes.now c.in-Err.refusal c.args.database.now
