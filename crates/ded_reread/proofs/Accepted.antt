-- What is read back of an accepted formula is accepted, and has the words, the plain sums and the short rows of the formula.
use Rattle.std.proofs.Common.{◌≡◌, ℕ, suc, ◌+◌, nat_lt, false, ◌||◌, List, length, sym, ap, ◌∙◌}
use Rattle.ded_model.specs.declared.name.Column.{Column}
use Rattle.ded_model.specs.Form.{Form, FormAtom, speaks_of, atom_speaks_of}
use Rattle.ded_model.specs.Known.{KnownNames, IsAccepted, level_of, atom_level, is_unknown_atom, is_arity_atom, is_unbound_atom, is_missorted_atom, has_unbound, has_missorted}
use Rattle.ded_model.specs.Logic.{some_atom, some_below}
use Rattle.ded_model.specs.LongRows.{is_long_atom}
use Rattle.ded_model.specs.Plain.{IsPlain, IsPlainAtom}
use Rattle.ded_model.specs.Slotted.{SlotScope, heading_scope, goal_of}
use Rattle.ded_resolve.proofs.Reading.{sorts_heading}
use Rattle.ded_print.specs.Tuples.{Names, column_names}
use Rattle.ded_dump.specs.Headings.{places}
use Rattle.ded_reread.specs.Formulas.{restored}
use Rattle.ded_reread.specs.Words.{Test, IsWritten, AtomHasWords}
use Rattle.ded_reread.proofs.Atoms.{bound_atom, sorted_atom, plain_atom, short_atom, words_atom}
use Rattle.ded_reread.proofs.Below.{AllIn, Fails, none_below, Has, all_atoms, each_fails, none_fails, both_atoms, IsFine, fine_over, again, quantifiers_again, all_restored}
use Rattle.ded_reread.proofs.Counted.{some_again, greatest_again, unknown_same, arities_same, speaks_same, level_same}
use Rattle.ded_reread.proofs.Written.{atoms_written, written_again}

module _ (K : KnownNames) (h : List Column) (f : Form) where
  names : Names
  names = column_names (places h f)

  scope : SlotScope
  scope = heading_scope 0 h

  module _ (X : FormAtom → Type 0) (fine : AllIn (IsFine K names X) scope (length h) f) where
    none_unbound : has_unbound h (again names scope (length h) f) ≡ false
    unfolding names scope
    none_unbound =
        ap (λ s. some_below is_unbound_atom s (again names scope (length h) f)) (sym (sorts_heading 0 h))
        ∙ none_below is_unbound_atom (again names scope (length h) f) scope (length h)
        (all_restored names (IsFine K names X) (Fails is_unbound_atom) (λ s a i. record { is = bound_atom K names X s a i }) (λ s a i. record { is = i.bound }) f scope (length h) fine)

    none_missorted : has_missorted K h (again names scope (length h) f) ≡ false
    unfolding names scope
    none_missorted =
        ap (λ s. some_below (is_missorted_atom K) s (again names scope (length h) f)) (sym (sorts_heading 0 h))
        ∙ none_below (is_missorted_atom K) (again names scope (length h) f) scope (length h)
        (all_restored names (IsFine K names X) (Fails (is_missorted_atom K)) (λ s a i. record { is = sorted_atom K names X s a i }) (λ s a i. record { is = i.sorted }) f scope (length h) fine)

  module _ (a : IsAccepted K h f) where
    pub accepted_restored : IsPlain f → IsAccepted K h (restored h f)
    unfolding goal_of names scope
    accepted_restored p =
        let fine = fine_over K IsPlainAtom h f a p in
        record {
          few = ap (λ n. nat_lt 16 (length h) || nat_lt 64 (length h + n)) (quantifiers_again names f scope (length h)) ∙ a.few;
          once = a.once;
          known = some_again names (is_unknown_atom K) (unknown_same K names) f scope (length h) ∙ a.known;
          arity = some_again names (is_arity_atom K) (arities_same K names) f scope (length h) ∙ a.arity;
          bound = none_unbound IsPlainAtom fine;
          sorted = none_missorted IsPlainAtom fine;
        }

    pub plain_restored : IsPlain f → IsPlain (restored h f)
    unfolding goal_of names scope
    plain_restored p =
        all_atoms IsPlainAtom (again names scope (length h) f) scope (length h)
        (all_restored names (IsFine K names IsPlainAtom) (Has IsPlainAtom) (λ s b i. record { is = plain_atom K names IsPlainAtom s b i i.more }) (λ s b i. record { is = i.more }) f scope (length h) (fine_over K IsPlainAtom h f a p))

    pub short_restored : IsPlain f → some_atom is_long_atom f ≡ false → some_atom is_long_atom (restored h f) ≡ false
    unfolding goal_of names scope
    short_restored p e =
        let X : FormAtom → Type 0 = λ b. IsPlainAtom b × (is_long_atom b ≡ false) in
        let Y : FormAtom → Type 0 = λ b. is_long_atom b ≡ false in
        none_fails is_long_atom (again names scope (length h) f)
        (all_atoms Y (again names scope (length h) f) scope (length h)
        (all_restored names (IsFine K names X) (Has Y) (λ s b i. record { is = short_atom K names X s b i i.more.0 i.more.1 }) (λ s b i. record { is = i.more.1 }) f scope (length h)
        (fine_over K X h f a (both_atoms IsPlainAtom Y f p (each_fails is_long_atom f e)))))

    -- for any tests of words
    pub written_restored : (N M T : Test) → IsWritten N M T f → IsWritten N M T (restored h f)
    unfolding goal_of names scope
    written_restored N M T w =
        let X : FormAtom → Type 0 = AtomHasWords N M T in
        written_again N M T names f scope (length h) w
        (all_atoms X (again names scope (length h) f) scope (length h)
        (all_restored names (IsFine K names X) (Has X) (λ s b i. record { is = words_atom K names X s N M T b i i.more }) (λ s b i. record { is = i.more }) f scope (length h)
        (fine_over K X h f a (atoms_written N M T f w))))

-- ---- of every formula

pub level_restored : (K : KnownNames) (h : List Column) (f : Form) → level_of K (restored h f) ≡ level_of K f
unfolding goal_of
level_restored K h f = ap suc (greatest_again (column_names (places h f)) (atom_level K) (level_same K (column_names (places h f))) f (heading_scope 0 h) (length h))

pub speaks_restored : (n : List ℕ) (h : List Column) (f : Form) → speaks_of n (restored h f) ≡ speaks_of n f
unfolding goal_of
speaks_restored n h f = some_again (column_names (places h f)) (atom_speaks_of n) (speaks_same n (column_names (places h f))) f (heading_scope 0 h) (length h)
