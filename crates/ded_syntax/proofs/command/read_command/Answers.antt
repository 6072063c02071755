use Rattle.std.proofs.Common.{◌≢◌, ℕ, List}
use Rattle.std.specs.Prelude.{map}
use Rattle.ded_num.proofs.Tests.{if_ok_by, if_err_by}
use Rattle.ded_lex.specs.Tokens.{AreLexemes, lexeme}
use Rattle.ded_model.specs.declared.command.Refusal.{Refusal}
use Rattle.ded_model.specs.declared.command.Refusal.TheVariants.{Memory}
use Rattle.ded_model.specs.declared.command.Command.{Command}
use Rattle.ded_model.specs.Command.{command_form}
use Rattle.ded_syntax.specs.Spelling.{IsRead, IsLeastIn}
use Rattle.ded_terminals.proofs.Seen.{no_lexemes, few_tokens, slice_says}
use Rattle.ded_syntax.proofs.Refused.{no_token}
use Rattle.ded_syntax.proofs.command.read_command.Goals as goal

pub returns-in-Err-NotRead-clause-refused : goal.returns-in-Err-NotRead-clause-refused
returns-in-Err-NotRead-clause-refused c = λ other. no_token c.args.language c.args.bytes.now (no_lexemes _ (c.in-Err-NotRead.ensures.no_token c.in-Err-NotRead.field-0-is))

pub read_tokens-requires : goal.read_tokens-requires
read_tokens-requires c = few_tokens c.args.bytes.now _ c.list.result.now c.requires c.in-Ok.ensures.tokens c.list.ensures

pub returns-in-Ok-clause-read : goal.returns-in-Ok-clause-read
returns-in-Ok-clause-read c =
    if_ok_by c.read_tokens.result
    (λ (x : Command). (piece : List ℕ) → AreLexemes piece (map (lexeme c.args.bytes.now) c.list.result.now) → IsRead c.args.language piece (command_form x))
    (λ (x : Command). IsRead c.args.language c.args.bytes.now (command_form x))
    (λ x h. h c.args.bytes.now (slice_says c.args.bytes.now _ c.list.result.now c.in-Ok.ensures.tokens c.list.ensures))
    c.read_tokens.ensures.read

pub returns-in-Ok-clause-refused : goal.returns-in-Ok-clause-refused
returns-in-Ok-clause-refused c =
    if_err_by c.read_tokens.result
    (λ (r : Refusal). r ≢ Memory → (piece : List ℕ) → AreLexemes piece (map (lexeme c.args.bytes.now) c.list.result.now) → IsLeastIn r c.args.language piece)
    (λ (r : Refusal). r ≢ Memory → IsLeastIn r c.args.language c.args.bytes.now)
    (λ r h other. h other c.args.bytes.now (slice_says c.args.bytes.now _ c.list.result.now c.in-Ok.ensures.tokens c.list.ensures))
    c.read_tokens.ensures.refused
