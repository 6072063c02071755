-- Each atom of a formula stands in one of its terminals, so what all atoms of the terminals have, all atoms of the formula have.
use Rattle.std.proofs.Common.{ℕ, List, [], ◌∷◌, ◌++◌, sym, subst}
use Rattle.ded_model.specs.Form.{Form, FormAtom}
use Rattle.ded_model.specs.Logic.{AllAtoms, AllAtomsOf, logics}
use Rattle.ded_model.specs.declared.name.Column.{Column}
use Rattle.ded_grammar.specs.declared.terminal.Quantifier.{Quantifier}
use Rattle.ded_grammar.specs.declared.terminal.Quantifier.TheVariants.{Exists, Forall}
use Rattle.ded_grammar.specs.Trees.{TerminalForm, conjunct, disjunct, arrow, closing, leaf, Whole, only, follows, Either, either_last, either_more, Both, both_last, both_more, One, negated, bound, grouped, plain, Body, bound_again, around, spell, spell_either, spell_both, spell_one, spell_body, meaning, members_either, members_both, meaning_one, meaning_body, quantified, all_of, any_of}
use Rattle.ded_grammar.specs.Spelling.{Spells}

-- each atom of the terminal has the property
abbrev pub TerminalHas : (FormAtom → Type 0) → TerminalForm → Type 0
TerminalHas P (leaf f) = AllAtoms P f
TerminalHas P p = Unit {0}

abbrev pub TerminalsHave : (FormAtom → Type 0) → List TerminalForm → Type 0
TerminalsHave P [] = Unit {0}
TerminalsHave P (p ∷ ps) = TerminalHas P p × TerminalsHave P ps

module _ (P : FormAtom → Type 0) where
  front : (ps qs : List TerminalForm) → TerminalsHave P (ps ++ qs) → TerminalsHave P ps
  front [] qs h = tt
  front (p ∷ ps) qs h = (h.0, front ps qs h.1)

  back : (ps qs : List TerminalForm) → TerminalsHave P (ps ++ qs) → TerminalsHave P qs
  back [] qs h = h
  back (p ∷ ps) qs h = back ps qs h.1

  in_all : (f : Form) (fs : List Form) → AllAtomsOf P (logics (f ∷ fs)) → AllAtoms P (all_of (f ∷ fs))
  in_all f [] h = h.0
  in_all f (g ∷ fs) h = h

  in_any : (f : Form) (fs : List Form) → AllAtomsOf P (logics (f ∷ fs)) → AllAtoms P (any_of (f ∷ fs))
  in_any f [] h = h.0
  in_any f (g ∷ fs) h = h

  in_both : (b : Both) → AllAtomsOf P (logics (members_both b)) → AllAtoms P (all_of (members_both b))
  in_both (both_last u) h = in_all (meaning_one u) [] h
  in_both (both_more u b) h = in_all (meaning_one u) (members_both b) h

  in_either : (e : Either) → AllAtomsOf P (logics (members_either e)) → AllAtoms P (any_of (members_either e))
  in_either (either_last b) h = in_any (all_of (members_both b)) [] h
  in_either (either_more b e) h = in_any (all_of (members_both b)) (members_either e) h

  under : (q : Quantifier) (c : Column) (f : Form) → AllAtoms P f → AllAtoms P (quantified q c f)
  under Exists c f h = h
  under Forall c f h = h

  mutual
    whole_has : (w : Whole) → TerminalsHave P (spell w) → AllAtoms P (meaning w)
    whole_has (only e) h = in_either e (either_has e h)
    whole_has (follows e w) h = (in_either e (either_has e (front (spell_either e) (arrow ∷ spell w) h)), whole_has w ((back (spell_either e) (arrow ∷ spell w) h).1))

    either_has : (e : Either) → TerminalsHave P (spell_either e) → AllAtomsOf P (logics (members_either e))
    either_has (either_last b) h = (in_both b (both_has b h), tt)
    either_has (either_more b e) h = (in_both b (both_has b (front (spell_both b) (disjunct ∷ spell_either e) h)), either_has e ((back (spell_both b) (disjunct ∷ spell_either e) h).1))

    both_has : (b : Both) → TerminalsHave P (spell_both b) → AllAtomsOf P (logics (members_both b))
    both_has (both_last u) h = (one_has u h, tt)
    both_has (both_more u b) h = (one_has u (front (spell_one u) (conjunct ∷ spell_both b) h), both_has b ((back (spell_one u) (conjunct ∷ spell_both b) h).1))

    one_has : (u : One) → TerminalsHave P (spell_one u) → AllAtoms P (meaning_one u)
    one_has (negated u) h = one_has u h.1
    one_has (bound q c b) h = under q c (meaning_body b) (body_has b h.1)
    one_has (grouped w) h = whole_has w (front (spell w) (closing ∷ []) h.1)
    one_has (plain f) h = h.0

    body_has : (b : Body) → TerminalsHave P (spell_body b) → AllAtoms P (meaning_body b)
    body_has (bound_again q c b) h = under q c (meaning_body b) (body_has b h.1)
    body_has (around w) h = whole_has w (front (spell w) (closing ∷ []) h.1)

  -- a property of all atoms of the terminals is one of all atoms of the formula that they spell
  pub spelled_has : (ps : List TerminalForm) (f : Form) (depth : ℕ) → Spells ps f depth → TerminalsHave P ps → AllAtoms P f
  spelled_has ps f depth s h = subst (AllAtoms P) s.means (whole_has s.tree (subst (TerminalsHave P) (sym s.is) h))
