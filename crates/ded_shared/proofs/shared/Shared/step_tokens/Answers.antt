use Rattle.ded_model.specs.declared.command.Refusal.TheVariants.{Syntax}
use Rattle.ded_session.specs.Replies.{refused}
use Rattle.ded_shared.specs.Answered.{shared_form}
use Rattle.ded_shared.specs.Forms.{plain}
use Rattle.ded_shared.specs.Parts.{state_of}
use Rattle.ded_shared.proofs.Refusing.{untagged, with_reply}
use Rattle.ded_shared.proofs.shared.Shared.step_tokens.Goals as goal

pub returns-in-Some : goal.returns-in-Some
returns-in-Some c = c.step_tagged.ensures c.args.bytes.now c.requires.short c.in-Some.ensures.0

pub returns-in-None : goal.returns-in-None
returns-in-None c =
    with_reply c.args.bytes.now (state_of c.args.self.now) (state_of c.args.self.now) (plain (refused Syntax)) (shared_form c.refused.result) c.refused.ensures
    (untagged c.args.bytes.now c.requires.short c.in-None.ensures (state_of c.args.self.now))
