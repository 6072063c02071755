use Rattle.std.proofs.Common.{◌≢◌, ℕ, List, ap, ◌∙◌, arith}
use Rattle.std.specs.Prelude.{map}
use Rattle.std.proofs.lemmas.List.{length-map}
use Rattle.ded_num.proofs.Tests.{if_ok_by, if_err_by}
use Rattle.ded_lex.specs.Tokens.{AreLexemes, lexeme}
use Rattle.ded_model.specs.declared.command.Language.{Language}
use Rattle.ded_model.specs.declared.command.Refusal.{Refusal}
use Rattle.ded_model.specs.declared.command.Refusal.TheVariants.{Memory}
use Rattle.ded_model.specs.declared.command.Command.{Command}
use Rattle.ded_model.specs.Command.{command_form}
use Rattle.ded_terminals.specs.Items.{seen, symbols, AreSymbols}
use Rattle.ded_syntax.specs.Spelling.{IsRead, IsLeastIn}
use Rattle.ded_terminals.proofs.Seen.{symbols_are, few_items}
use Rattle.ded_syntax.proofs.command.read_tokens.Goals as goal

pub command_by-requires : goal.command_by-requires
command_by-requires c = record {
  few = omega (arith, few_items c.args.language c.args.bytes.now c.args.tokens.now c.deref.result.now c.requires (ap (symbols c.args.bytes.now) c.deref.ensures.value ∙ c.in-Ok.ensures), length-map c.deref.result.now (seen c.args.bytes.now));
}

pub returns-clause-read : goal.returns-clause-read
returns-clause-read c =
    if_ok_by c.command_by.result
    (λ (x : Command). (language : Language) (bytes : List ℕ) → AreSymbols language bytes (symbols c.args.bytes.now c.deref.result.now) → IsRead language bytes (command_form x))
    (λ (x : Command). (piece : List ℕ) → AreLexemes piece (map (lexeme c.args.bytes.now) c.args.tokens.now) → IsRead c.args.language piece (command_form x))
    (λ x h piece are. h c.args.language piece (symbols_are c.args.language c.args.bytes.now piece c.args.tokens.now c.deref.result.now are (ap (symbols c.args.bytes.now) c.deref.ensures.value ∙ c.in-Ok.ensures)))
    c.command_by.ensures.read

pub returns-clause-refused : goal.returns-clause-refused
returns-clause-refused c =
    if_err_by c.command_by.result
    (λ (r : Refusal). r ≢ Memory → (language : Language) (bytes : List ℕ) → AreSymbols language bytes (symbols c.args.bytes.now c.deref.result.now) → IsLeastIn r language bytes)
    (λ (r : Refusal). r ≢ Memory → (piece : List ℕ) → AreLexemes piece (map (lexeme c.args.bytes.now) c.args.tokens.now) → IsLeastIn r c.args.language piece)
    (λ r h other piece are. h other c.args.language piece (symbols_are c.args.language c.args.bytes.now piece c.args.tokens.now c.deref.result.now are (ap (symbols c.args.bytes.now) c.deref.ensures.value ∙ c.in-Ok.ensures)))
    c.command_by.ensures.refused
