-- The names with which `disjoint` was spelled can be written again.
use Rattle.std.proofs.Common.{◌≡◌, inl, inr, ℕ, Bool, true, false, List, map, refl, sym, subst}
use Rattle.std.specs.List.{list_any}
use Rattle.ded_lex.specs.Lexemes.{Lexeme}
use Rattle.ded_model.specs.declared.command.Language.{Language}
use Rattle.ded_model.specs.declared.command.Refusal.TheVariants.{LongName}
use Rattle.ded_model.specs.Command.{CommandForm, disjoint}
use Rattle.ded_model.specs.Form.{Form}
use Rattle.ded_terminals.specs.Symbols.{Symbol, symbol}
use Rattle.ded_terminals.specs.Literals.{Reader, exact}
use Rattle.ded_syntax.specs.Commands.{Plain, opens, defines, inserts_none, inserts, deletes, drops, keeps, shows, boxes, dumps, certifies, verifies_none, verifies, spell_plain, plain_form, Prefix, views, asks, queries, explains, prefix_form, SpellsCommand}
use Rattle.ded_syntax.specs.Spelling.{Spells, AppliesIn, is_long_word}
use Rattle.ded_reread.specs.ScriptWords.{IsName}
use Rattle.ded_reread.proofs.WordsOperands.{AreGood}
use Rattle.ded_reread.proofs.WordsSymbols.{symbols_good}

-- the names of `disjoint`
abbrev AreNames : CommandForm → Type 0
AreNames (disjoint n m) = IsName n × IsName m
AreNames _ = Unit {0}

plain_named : (value : Reader) (p : Plain) → AreGood (spell_plain p) → AreNames (plain_form value p)
plain_named value (certifies n m) q = (q.1.0, q.1.1.0)
plain_named value (opens d two) q = tt
plain_named value (defines n h) q = tt
plain_named value (inserts_none n) q = tt
plain_named value (inserts n c cs) q = tt
plain_named value (deletes n d) q = tt
plain_named value (drops n) q = tt
plain_named value (keeps n) q = tt
plain_named value (shows n) q = tt
plain_named value (boxes n) q = tt
plain_named value dumps q = tt
plain_named value (verifies_none n m) q = tt
plain_named value (verifies n m e es) q = tt

formed_named : (p : Prefix) (f : Form) → AreNames (prefix_form p f)
formed_named (views n h) f = tt
formed_named asks f = tt
formed_named (queries h) f = tt
formed_named (explains h) f = tt

command_named : (value : Reader) (ts : List Symbol) (c : CommandForm) (depth : ℕ) → AreGood ts → SpellsCommand value ts c depth → AreNames c
command_named value ts c depth q (inl s) = subst AreNames (sym s.means) (plain_named value s.plain (subst AreGood s.spelled q))
command_named value ts c depth q (inr s) = subst AreNames (sym s.means) (formed_named s.before s.formula)

pub disjoint_named : (language : Language) (bytes n m : List ℕ) (depth : ℕ) → Spells language bytes (disjoint n m) depth → (AppliesIn LongName language bytes → ⊥) → IsName n × IsName m
disjoint_named language bytes n m depth s short =
    let few = subst (λ (ls : List Lexeme). list_any is_long_word ls ≡ false) (sym s.are.lexemes_are) (none_long (list_any is_long_word s.lexemes) refl) in
    command_named exact (map (symbol language) s.lexemes) (disjoint n m) depth
    (subst (λ (ls : List Lexeme). AreGood (map (symbol language) ls)) s.are.lexemes_are (symbols_good language s.are.cells s.are.each few)) s.command
  where
    none_long : (b : Bool) → list_any is_long_word s.lexemes ≡ b → b ≡ false
    none_long false e = refl
    none_long true e = absurd (short (record { lexemes = s.lexemes; are = s.are; passes = e }))
