-- A session that goes on with the catalogue answers the command, and hands the catalogue back.
use Rattle.std.proofs.Common.{rules}
use Rattle.ded_model.specs.declared.command.Language.TheVariants.{One}
use Rattle.ded_model.specs.Command.{command_form}
use Rattle.ded_catalog.specs.State.{catalogue_of}
use Rattle.ded_session.specs.Answered.{reply_form}
use Rattle.ded_session.specs.Carrying.{Answers}
use Rattle.ded_session.proofs.StepLemmas.{step_read}
use Rattle.ded_shared.proofs.working.step_over.Goals as goal

pub returns-in-Ok : goal.returns-in-Ok
returns-in-Ok c =
    let x = command_form c.args.command in
    let answers : Answers x (catalogue_of c.args.catalogue.now) (reply_form c.answer-reply.result) (catalogue_of c.into_catalogue.result) = search rules in
    λ bytes short read. step_read One bytes (catalogue_of c.args.catalogue.now) short x read (λ h. h) (reply_form c.answer-reply.result) (catalogue_of c.into_catalogue.result) answers
