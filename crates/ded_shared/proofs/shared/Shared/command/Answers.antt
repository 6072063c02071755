use Rattle.ded_model.specs.Command.{command_form}
use Rattle.ded_session.specs.Answered.{reply_form}
use Rattle.ded_session.specs.Replies.{refused}
use Rattle.ded_shared.specs.Answered.{shared_form}
use Rattle.ded_shared.specs.Forms.{plain}
use Rattle.ded_shared.specs.Parts.{state_of}
use Rattle.ded_shared.proofs.Refusing.{refused_tagged, worked_tagged, with_reply}
use Rattle.ded_shared.proofs.shared.Shared.command.Goals as goal

pub returns-in-Ok : goal.returns-in-Ok
returns-in-Ok c =
    λ bytes short tag. worked_tagged c.args.tag.session c.args.tag.rest.now (state_of c.args.self.now) (state_of c.work.new.self) bytes short tag (command_form c.in-Ok.command) (c.in-Ok.ensures.read c.args.tag.rest.now c.requires.tokens.say) (reply_form c.work.result) c.work.ensures

pub returns-in-Err : goal.returns-in-Err
returns-in-Err c =
    λ bytes short tag.
    with_reply bytes (state_of c.args.self.now) (state_of c.args.self.now) (plain (refused c.in-Err.refusal)) (shared_form c.refused.result) c.refused.ensures
    (refused_tagged bytes short c.args.tag.session c.args.tag.rest.now tag c.requires.no_word c.in-Err.refusal (λ other. c.in-Err.ensures.refused other c.args.tag.rest.now c.requires.tokens.say) (state_of c.args.self.now))
