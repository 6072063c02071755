-- The words and texts of a command that is read.
use Rattle.std.proofs.Common.{◌≡◌, inl, inr, ℕ, Bool, true, false, List, [], ◌∷◌, ◌++◌, map, refl, sym, subst, arith}
use Rattle.std.specs.List.{list_any}
use Rattle.ded_lex.specs.Lexemes.{Lexeme}
use Rattle.ded_model.proofs.Lists.{every-left, every-right}
use Rattle.ded_model.specs.declared.name.Column.{Column}
use Rattle.ded_model.specs.declared.command.Language.{Language}
use Rattle.ded_model.specs.declared.command.Refusal.TheVariants.{LongName}
use Rattle.ded_model.specs.Command.{CommandForm, relation, insert, view}
use Rattle.ded_model.specs.Form.{Form}
use Rattle.ded_model.specs.Logic.{AllAtomsOf}
use Rattle.ded_terminals.specs.Symbols.{Symbol, symbol, Close, CloseBrace, Define}
use Rattle.ded_terminals.specs.Literals.{Reader, exact}
use Rattle.ded_terminals.specs.Atoms.{spell_rest, spell_column, sort_symbols}
use Rattle.ded_syntax.specs.Commands.{Columns, spell_heading, heading, Plain, opens, defines, inserts_none, inserts, deletes, drops, keeps, shows, boxes, dumps, certifies, verifies_none, verifies, spell_plain, plain_form, Prefix, views, asks, queries, explains, spell_prefix, prefix_form, SpellsCommand}
use Rattle.ded_syntax.specs.Spelling.{IsRead, is_long_word}
use Rattle.ded_reread.specs.Words.{AreNamed, AtomHasWords}
use Rattle.ded_reread.specs.ScriptWords.{IsName, IsMember, IsText, IsHeading}
use Rattle.ded_reread.proofs.WordsSymbols.{IsGoodSymbol, symbols_good}
use Rattle.ded_reread.proofs.WordsOperands.{AreGood, inserted_good}
use Rattle.ded_reread.proofs.WordsTrees.{Written, formula_written}

-- ---- headings

columns_named : (cs : List Column) → AreGood (spell_rest spell_column cs) → AreNamed IsName cs
columns_named [] h = tt
columns_named (c ∷ cs) h = (h.1.0, columns_named cs (every-right IsGoodSymbol (sort_symbols c.sort) (spell_rest spell_column cs) h.1.1))

heading_good : (h : Columns) → AreGood (spell_heading h) → IsHeading (heading h)
heading_good h p =
    record {
      some = omega arith;
      named = (p.1.0, columns_named h.rest (every-left IsGoodSymbol (spell_rest spell_column h.rest) (Close ∷ []) (every-right IsGoodSymbol (sort_symbols h.first.sort) (spell_rest spell_column h.rest ++ Close ∷ []) p.1.1)));
    }

-- ---- commands

abbrev IsGoodCommand : CommandForm → Type 0
IsGoodCommand (relation n h) = IsName n × IsHeading h
IsGoodCommand (insert n fs) = AllAtomsOf (AtomHasWords IsName IsMember IsText) fs
IsGoodCommand (view n h f) = IsName n × IsHeading h × Written f
IsGoodCommand _ = Unit {0}

flat_good : (value : Reader) (p : Plain) → AreGood (spell_plain p) → IsGoodCommand (plain_form value p)
flat_good value (opens d two) q = tt
flat_good value (defines n h) q = (q.1.0, heading_good h q.1.1)
flat_good value (inserts_none n) q = tt
flat_good value (inserts n c cs) q = inserted_good value c cs (CloseBrace ∷ []) q.1.1.1
flat_good value (deletes n d) q = tt
flat_good value (drops n) q = tt
flat_good value (keeps n) q = tt
flat_good value (shows n) q = tt
flat_good value (boxes n) q = tt
flat_good value dumps q = tt
flat_good value (certifies n m) q = tt
flat_good value (verifies_none n m) q = tt
flat_good value (verifies n m e es) q = tt

before_good : (p : Prefix) (f : Form) → AreGood (spell_prefix p) → Written f → IsGoodCommand (prefix_form p f)
before_good (views n h) f q u = (q.1.0, heading_good h (every-left IsGoodSymbol (spell_heading h) (Define ∷ []) q.1.1), u)
before_good asks f q u = tt
before_good (queries h) f q u = tt
before_good (explains h) f q u = tt

command_good : (value : Reader) (ts : List Symbol) (c : CommandForm) (depth : ℕ) → AreGood ts → SpellsCommand value ts c depth → IsGoodCommand c
command_good value ts c depth q (inl s) = subst IsGoodCommand (sym s.means) (flat_good value s.plain (subst AreGood s.spelled q))
command_good value ts c depth q (inr s) =
    let both = subst AreGood s.spelled q in
    subst IsGoodCommand (sym s.means)
    (before_good s.before s.formula (every-left IsGoodSymbol (spell_prefix s.before) s.rest both) (formula_written value s.rest s.formula depth (every-right IsGoodSymbol (spell_prefix s.before) s.rest both) s.spells))

-- no word is long
no_long : (language : Language) (bytes : List ℕ) (c : CommandForm) (r : IsRead language bytes c) → list_any is_long_word r.spells.lexemes ≡ false
no_long language bytes c r = by (list_any is_long_word r.spells.lexemes) refl
  where
    by : (b : Bool) → list_any is_long_word r.spells.lexemes ≡ b → list_any is_long_word r.spells.lexemes ≡ false
    by true e = absurd (r.accepted LongName (record { lexemes = r.spells.lexemes; are = r.spells.are; passes = e }))
    by false e = e

read_good : (language : Language) (bytes : List ℕ) (c : CommandForm) → IsRead language bytes c → IsGoodCommand c
read_good language bytes c r =
    let s = r.spells in
    let short = subst (λ (ls : List Lexeme). list_any is_long_word ls ≡ false) (sym s.are.lexemes_are) (no_long language bytes c r) in
    command_good exact (map (symbol language) s.lexemes) c r.depth
    (subst (λ (ls : List Lexeme). AreGood (map (symbol language) ls)) s.are.lexemes_are (symbols_good language s.are.cells s.are.each short)) s.command

pub relations_good : (language : Language) (bytes n : List ℕ) (h : List Column) → IsRead language bytes (relation n h) → IsName n × IsHeading h
relations_good language bytes n h r = read_good language bytes (relation n h) r

pub inserts_good : (language : Language) (bytes n : List ℕ) (fs : _) → IsRead language bytes (insert n fs) → AllAtomsOf (AtomHasWords IsName IsMember IsText) fs
inserts_good language bytes n fs r = read_good language bytes (insert n fs) r

pub views_good : (language : Language) (bytes n : List ℕ) (h : List Column) (f : Form) → IsRead language bytes (view n h f) → IsName n × IsHeading h × Written f
views_good language bytes n h f r = read_good language bytes (view n h f) r
