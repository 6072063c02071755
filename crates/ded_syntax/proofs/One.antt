-- Bytes spell one command at most.
use Rattle.std.proofs.Common.{◌≡◌, ℕ, List, map, sym, subst, ◌∙◌}
use Rattle.ded_model.specs.declared.command.Language.{Language}
use Rattle.ded_model.specs.Command.{CommandForm}
use Rattle.ded_lex.specs.Lexemes.{Lexeme}
use Rattle.ded_terminals.specs.Symbols.{Symbol, symbol}
use Rattle.ded_terminals.specs.Literals.{Reader, exact}
use Rattle.ded_syntax.specs.Commands.{SpellsCommand}
use Rattle.ded_syntax.specs.CommandReading.{Draft}
use Rattle.ded_syntax.specs.Meaning.{Means}
use Rattle.ded_syntax.specs.Spelling.{Spells}
use Rattle.ded_terminals.proofs.Binds.{some_same}
use Rattle.ded_terminals.proofs.Seen.{one_list}
use Rattle.ded_syntax.proofs.CommandsRead.{command_read}
use Rattle.ded_syntax.proofs.DraftsAlike.{one_meaning}

-- symbols spell one command at most
pub same_symbols : (value : Reader) (ts : List Symbol) (c k : CommandForm) (m n : ℕ) → SpellsCommand value ts c m → SpellsCommand value ts k n → (c ≡ k) × (m ≡ n)
same_symbols value ts c k m n s r =
    let d = command_read value ts c m s in
    let e = command_read value ts k n r in
    one_meaning d.0 c k m n d.2 (subst (λ (x : Draft). Means x k n) (some_same e.0 d.0 (sym e.1 ∙ d.1)) e.2)

pub one_command : (language : Language) (bytes : List ℕ) (these those : CommandForm) (m n : ℕ) → Spells language bytes these m → Spells language bytes those n → (these ≡ those) × (m ≡ n)
one_command language bytes these those m n s r =
    same_symbols exact (map (symbol language) r.lexemes) these those m n
    (subst (λ (ls : List Lexeme). SpellsCommand exact (map (symbol language) ls) these m) (one_list bytes s.lexemes r.lexemes s.are r.are) s.command)
    r.command
