-- A formula that is spelled has such names and texts, and chains of two members or more.
use Rattle.std.proofs.Common.{ℕ, List, [], ◌∷◌, ◌++◌, refl, sym, subst}
use Rattle.ded_model.proofs.Lists.{Every, every-left, every-right}
use Rattle.ded_model.specs.declared.name.Column.{Column}
use Rattle.ded_model.specs.Form.{Form}
use Rattle.ded_model.specs.Logic.{logics}
use Rattle.ded_grammar.specs.declared.terminal.Quantifier.{Quantifier}
use Rattle.ded_grammar.specs.declared.terminal.Quantifier.TheVariants.{Exists, Forall}
use Rattle.ded_grammar.specs.Trees.{TerminalForm, nay, conjunct, disjunct, arrow, opening, closing, binder, leaf, Whole, only, follows, Either, either_last, either_more, Both, both_last, both_more, One, negated, bound, grouped, plain, Body, bound_again, around, spell, spell_either, spell_both, spell_one, spell_body, meaning, members_either, members_both, meaning_one, meaning_body, quantified, all_of, any_of}
use Rattle.ded_terminals.specs.Symbols.{Symbol}
use Rattle.ded_terminals.specs.Literals.{Reader}
use Rattle.ded_terminals.specs.Atoms.{IsTerminal, AreTerminals, SpellsFormula}
use Rattle.ded_reread.specs.Words.{IsWritten, AreWritten}
use Rattle.ded_reread.specs.ScriptWords.{IsName, IsMember, IsText}
use Rattle.ded_reread.proofs.WordsSymbols.{IsGoodSymbol}
use Rattle.ded_reread.proofs.WordsOperands.{AreGood, atom_good}

abbrev pub Written : Form → Type 0
Written f = IsWritten IsName IsMember IsText f

abbrev WrittenEach : List Form → Type 0
WrittenEach fs = AreWritten IsName IsMember IsText (logics fs)

abbrev IsWrittenTerminal : TerminalForm → Type 0
IsWrittenTerminal (binder q c) = IsName c.name
IsWrittenTerminal (leaf f) = Written f
IsWrittenTerminal _ = Unit {0}

abbrev HaveWritten : List TerminalForm → Type 0
HaveWritten = Every IsWrittenTerminal

left : (ps qs : List TerminalForm) → HaveWritten (ps ++ qs) → HaveWritten ps
left ps qs h = every-left IsWrittenTerminal ps qs h

right : (ps qs : List TerminalForm) → HaveWritten (ps ++ qs) → HaveWritten qs
right ps qs h = every-right IsWrittenTerminal ps qs h

in_all : (f : Form) (fs : List Form) → WrittenEach (f ∷ fs) → Written (all_of (f ∷ fs))
in_all f [] h = h.0
in_all f (g ∷ fs) h = (tt, h)

in_any : (f : Form) (fs : List Form) → WrittenEach (f ∷ fs) → Written (any_of (f ∷ fs))
in_any f [] h = h.0
in_any f (g ∷ fs) h = (tt, h)

in_both : (b : Both) → WrittenEach (members_both b) → Written (all_of (members_both b))
in_both (both_last u) h = in_all (meaning_one u) [] h
in_both (both_more u b) h = in_all (meaning_one u) (members_both b) h

in_either : (e : Either) → WrittenEach (members_either e) → Written (any_of (members_either e))
in_either (either_last b) h = in_any (all_of (members_both b)) [] h
in_either (either_more b e) h = in_any (all_of (members_both b)) (members_either e) h

under : (q : Quantifier) (c : Column) (f : Form) → IsName c.name → Written f → Written (quantified q c f)
under Exists c f n h = (record { word = c.name; is = refl; passes = n }, h)
under Forall c f n h = (record { word = c.name; is = refl; passes = n }, h)

mutual
  whole_written : (w : Whole) → HaveWritten (spell w) → Written (meaning w)
  whole_written (only e) h = in_either e (either_written e h)
  whole_written (follows e w) h = (in_either e (either_written e (left (spell_either e) (arrow ∷ spell w) h)), whole_written w ((right (spell_either e) (arrow ∷ spell w) h).1))

  either_written : (e : Either) → HaveWritten (spell_either e) → WrittenEach (members_either e)
  either_written (either_last b) h = (in_both b (both_written b h), tt)
  either_written (either_more b e) h = (in_both b (both_written b (left (spell_both b) (disjunct ∷ spell_either e) h)), either_written e ((right (spell_both b) (disjunct ∷ spell_either e) h).1))

  both_written : (b : Both) → HaveWritten (spell_both b) → WrittenEach (members_both b)
  both_written (both_last u) h = (one_written u h, tt)
  both_written (both_more u b) h = (one_written u (left (spell_one u) (conjunct ∷ spell_both b) h), both_written b ((right (spell_one u) (conjunct ∷ spell_both b) h).1))

  one_written : (u : One) → HaveWritten (spell_one u) → Written (meaning_one u)
  one_written (negated u) h = one_written u h.1
  one_written (bound q c b) h = under q c (meaning_body b) h.0 (body_written b h.1)
  one_written (grouped w) h = whole_written w (left (spell w) (closing ∷ []) h.1)
  one_written (plain f) h = h.0

  body_written : (b : Body) → HaveWritten (spell_body b) → Written (meaning_body b)
  body_written (bound_again q c b) h = under q c (meaning_body b) h.0 (body_written b h.1)
  body_written (around w) h = whole_written w (left (spell w) (closing ∷ []) h.1)

-- ---- by symbols

terminal_written : (value : Reader) (ts : List Symbol) (p : TerminalForm) → AreGood ts → IsTerminal value ts p → IsWrittenTerminal p
terminal_written value ts nay q h = tt
terminal_written value ts conjunct q h = tt
terminal_written value ts disjunct q h = tt
terminal_written value ts arrow q h = tt
terminal_written value ts opening q h = tt
terminal_written value ts closing q h = tt
terminal_written value ts (binder b c) q h = (subst AreGood h q).1.0
terminal_written value ts (leaf f) q h = subst Written h.2 (atom_good value h.0 (subst AreGood h.1 q))

terminals_written : (value : Reader) (ts : List Symbol) (ps : List TerminalForm) → AreGood ts → AreTerminals value ts ps → HaveWritten ps
terminals_written value ts [] q h = tt
terminals_written value ts (p ∷ ps) q h =
    let both = subst AreGood h.2 q in
    (terminal_written value h.0 p (every-left IsGoodSymbol h.0 h.1 both) h.3, terminals_written value h.1 ps (every-right IsGoodSymbol h.0 h.1 both) h.4)

pub formula_written : (value : Reader) (ts : List Symbol) (f : Form) (depth : ℕ) → AreGood ts → SpellsFormula value ts f depth → Written f
formula_written value ts f depth q s =
    subst Written s.spells.means (whole_written s.spells.tree (subst HaveWritten (sym s.spells.is) (terminals_written value ts s.terminals q s.are)))
