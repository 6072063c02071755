use Rattle.std.proofs.Common.{List, sym, subst}
use Rattle.ded_lex.specs.declared.token.Token.{Token}
use Rattle.ded_lex.specs.Tokens.{AreTokens}
use Rattle.ded_model.specs.declared.command.Refusal.TheVariants.{Syntax, Memory}
use Rattle.ded_session.specs.Replies.{refused}
use Rattle.ded_shared.specs.Answered.{shared_form}
use Rattle.ded_shared.specs.Deciding.{untagged_tokens}
use Rattle.ded_shared.specs.Forms.{plain}
use Rattle.ded_shared.specs.Parts.{state_of}
use Rattle.ded_shared.proofs.Refusing.{wants_tagged, untagged, with_reply}
use Rattle.ded_shared.proofs.shared.Shared.step_whole.Goals as goal

pub step_tokens-requires-clause-tokens : goal.step_tokens-requires-clause-tokens
step_tokens-requires-clause-tokens c = subst (λ (l : List Token). AreTokens c.args.bytes.now l) (sym c.list.ensures) c.in-Ok.ensures.tokens

pub returns-in-Err-NotRead : goal.returns-in-Err-NotRead
returns-in-Err-NotRead c =
    with_reply c.args.bytes.now (state_of c.args.self.now) (state_of c.args.self.now) (plain (refused Syntax)) (shared_form c.refused.result) c.refused.ensures
    (untagged c.args.bytes.now c.requires (untagged_tokens c.args.bytes.now (c.in-Err-NotRead.ensures.no_token c.in-Err-NotRead.field-0-is)) (state_of c.args.self.now))

pub returns-in-Err-Memory : goal.returns-in-Err-Memory
returns-in-Err-Memory c =
    with_reply c.args.bytes.now (state_of c.args.self.now) (state_of c.args.self.now) (plain (refused Memory)) (shared_form c.refused-in-Err-Memory.result) c.refused-in-Err-Memory.ensures (wants_tagged c.args.bytes.now c.requires (state_of c.args.self.now))
