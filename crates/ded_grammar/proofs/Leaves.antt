-- The atoms of a formula are those of its terminals.
use Rattle.std.proofs.Common.{◌≡◌, ℕ, Bool, List, [], ◌∷◌, ◌++◌, refl, sym, ap, ◌∙◌}
use Rattle.std.specs.Prelude.{◌||◌}
use Rattle.std.specs.List.{list_any}
use Rattle.ded_model.specs.Form.{Form, FormAtom}
use Rattle.ded_model.specs.Logic.{some_atom, some_atom_of, logics}
use Rattle.ded_grammar.specs.declared.terminal.Quantifier.{Quantifier}
use Rattle.ded_grammar.specs.declared.terminal.Quantifier.TheVariants.{Exists, Forall}
use Rattle.ded_model.specs.declared.name.Column.{Column}
use Rattle.ded_grammar.specs.Trees.{TerminalForm, conjunct, disjunct, arrow, closing, terminal_atom, Whole, only, follows, Either, either_last, either_more, Both, both_last, both_more, One, negated, bound, grouped, plain, Body, bound_again, around, spell, spell_either, spell_both, spell_one, spell_body, meaning, members_either, members_both, meaning_one, meaning_body, quantified, all_of, any_of}
use Rattle.ded_grammar.specs.Spelling.{Spells}
use Rattle.ded_model.proofs.Bools.{or_assoc}
use Rattle.std.proofs.Math.Bool.{or-false}

module _ (test : FormAtom → Bool) where
  any : List TerminalForm → Bool
  any ps = list_any (terminal_atom test) ps

  any_append : (ps qs : List TerminalForm) → list_any (terminal_atom test) (ps ++ qs) ≡ (list_any (terminal_atom test) ps || list_any (terminal_atom test) qs)
  any_append [] qs = refl
  any_append (p ∷ ps) qs = ap (λ (b : Bool). terminal_atom test p || b) (any_append ps qs) ∙ sym (or_assoc (terminal_atom test p) (list_any (terminal_atom test) ps) (list_any (terminal_atom test) qs))

  of_all : (fs : List Form) (f : Form) → some_atom test (all_of (f ∷ fs)) ≡ some_atom_of test (logics (f ∷ fs))
  of_all [] f = sym (or-false (some_atom test f))
  of_all (g ∷ fs) f = refl

  of_any : (fs : List Form) (f : Form) → some_atom test (any_of (f ∷ fs)) ≡ some_atom_of test (logics (f ∷ fs))
  of_any [] f = sym (or-false (some_atom test f))
  of_any (g ∷ fs) f = refl

  of_both : (b : Both) → some_atom test (all_of (members_both b)) ≡ some_atom_of test (logics (members_both b))
  of_both (both_last u) = of_all [] (meaning_one u)
  of_both (both_more u b) = of_all (members_both b) (meaning_one u)

  of_either : (e : Either) → some_atom test (any_of (members_either e)) ≡ some_atom_of test (logics (members_either e))
  of_either (either_last b) = of_any [] (all_of (members_both b))
  of_either (either_more b e) = of_any (members_either e) (all_of (members_both b))

  bound_atoms : (q : Quantifier) (c : Column) (f : Form) → some_atom test (quantified q c f) ≡ some_atom test f
  bound_atoms Exists c f = refl
  bound_atoms Forall c f = refl

  mutual
    pub whole_atoms : (w : Whole) → list_any (terminal_atom test) (spell w) ≡ some_atom test (meaning w)
    whole_atoms (only e) = either_atoms e ∙ sym (of_either e)
    whole_atoms (follows e w) =
        any_append (spell_either e) (arrow ∷ spell w)
        ∙ ap (λ (b : Bool). b || list_any (terminal_atom test) (spell w)) (either_atoms e ∙ sym (of_either e))
        ∙ ap (λ (b : Bool). some_atom test (any_of (members_either e)) || b) (whole_atoms w)

    pub either_atoms : (e : Either) → list_any (terminal_atom test) (spell_either e) ≡ some_atom_of test (logics (members_either e))
    either_atoms (either_last b) = both_atoms b ∙ sym (of_both b) ∙ sym (or-false (some_atom test (all_of (members_both b))))
    either_atoms (either_more b e) =
        any_append (spell_both b) (disjunct ∷ spell_either e)
        ∙ ap (λ (c : Bool). c || list_any (terminal_atom test) (spell_either e)) (both_atoms b ∙ sym (of_both b))
        ∙ ap (λ (c : Bool). some_atom test (all_of (members_both b)) || c) (either_atoms e)

    pub both_atoms : (b : Both) → list_any (terminal_atom test) (spell_both b) ≡ some_atom_of test (logics (members_both b))
    both_atoms (both_last u) = one_atoms u ∙ sym (or-false (some_atom test (meaning_one u)))
    both_atoms (both_more u b) =
        any_append (spell_one u) (conjunct ∷ spell_both b)
        ∙ ap (λ (c : Bool). c || list_any (terminal_atom test) (spell_both b)) (one_atoms u)
        ∙ ap (λ (c : Bool). some_atom test (meaning_one u) || c) (both_atoms b)

    pub one_atoms : (u : One) → list_any (terminal_atom test) (spell_one u) ≡ some_atom test (meaning_one u)
    one_atoms (negated u) = one_atoms u
    one_atoms (bound q c b) = body_atoms b ∙ sym (bound_atoms q c (meaning_body b))
    one_atoms (grouped w) = any_append (spell w) (closing ∷ []) ∙ or-false (list_any (terminal_atom test) (spell w)) ∙ whole_atoms w
    one_atoms (plain f) = or-false (some_atom test f)

    pub body_atoms : (b : Body) → list_any (terminal_atom test) (spell_body b) ≡ some_atom test (meaning_body b)
    body_atoms (bound_again q c b) = body_atoms b ∙ sym (bound_atoms q c (meaning_body b))
    body_atoms (around w) = any_append (spell w) (closing ∷ []) ∙ or-false (list_any (terminal_atom test) (spell w)) ∙ whole_atoms w

  pub spelled_atoms : (ps : List TerminalForm) (f : Form) (depth : ℕ) → Spells ps f depth → list_any (terminal_atom test) ps ≡ some_atom test f
  spelled_atoms ps f depth s = ap (list_any (terminal_atom test)) (sym s.is) ∙ whole_atoms s.tree ∙ ap (some_atom test) s.means
