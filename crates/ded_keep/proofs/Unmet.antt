-- Atoms that no point satisfies together.
use Rattle.std.proofs.Common.{◌≡◌, ℕ, ◌<◌, ◌&&◌, Bool, true, false, not, List, length, get_or, sym, ap, ◌∙◌, subst, refl}
use Rattle.std.proofs.lemmas.Slice.Eq.{bytes_eq-Decides}
use Rattle.std.proofs.lemmas.List.Folds.{list_all_at}
use Rattle.std.specs.Str.{bytes_eq}
use Rattle.ded_num.proofs.Tests.{not_true_false, and_not_both}
use Rattle.ded_model.specs.declared.slot.Slot.{Slot}
use Rattle.ded_model.specs.declared.tuple.BothAtom.TheVariants.{Second}
use Rattle.ded_model.specs.declared.tuple.ThemeAtom.TheVariants.{EqText}
use Rattle.ded_model.specs.Point.{slot, Point, text_at, same_slot}
use Rattle.ded_model.specs.Row.{Atom, theme_holds, atom_holds, tuple_holds}
use Rattle.ded_model.proofs.Points.{same_slot_is}

-- both can't be so, where the one being so tells that the other isn't
pub not_both : (a b : Bool) → (a ≡ true → b ≡ false) → (a && b) ≡ false
not_both true b k = k refl
not_both false b k = refl

-- where one atom of a tuple doesn't hold with an atom, the tuple doesn't
pub unlike_tuple : (a : Atom) (ts : List Atom) (i : ℕ) (b : Atom) → i < length ts → b ≡ get_or ts i b → ((p : Point) → (atom_holds a p && atom_holds b p) ≡ false) → (p : Point) → (atom_holds a p && tuple_holds ts p) ≡ false
unfolding tuple_holds
unlike_tuple a ts i b l e k p = not_both (atom_holds a p) (tuple_holds ts p) (λ h. list_all_at (λ x. atom_holds x p) ts i b l (subst (λ x. atom_holds x p ≡ false) e (and_not_both (atom_holds a p) (atom_holds b p) (k p) h)))

-- and where one atom of another tuple is such an atom, the tuples don't hold together
pub unlike_tuples : (ts us : List Atom) (i : ℕ) (a : Atom) → i < length ts → a ≡ get_or ts i a → ((p : Point) → (atom_holds a p && tuple_holds us p) ≡ false) → (p : Point) → (tuple_holds ts p && tuple_holds us p) ≡ false
unfolding tuple_holds
unlike_tuples ts us i a l e k p = by (atom_holds a p) refl
  where
    by : (b : Bool) → atom_holds a p ≡ b → (tuple_holds ts p && tuple_holds us p) ≡ false
    by true h = not_both (tuple_holds ts p) (tuple_holds us p) (λ x. and_not_both (atom_holds a p) (tuple_holds us p) (k p) h)
    by false h = ap (λ b. b && tuple_holds us p) (list_all_at (λ x. atom_holds x p) ts i a l (subst (λ x. atom_holds x p ≡ false) e h))

-- different texts at one slot
pub unlike_texts : (s t : Slot) (x y : List ℕ) (p : Point) → same_slot s t ≡ true → not (bytes_eq x y) ≡ true → (atom_holds (Second (EqText s x)) p && atom_holds (Second (EqText t y)) p) ≡ false
unfolding theme_holds atom_holds
unlike_texts s t x y p e d =
    not_both (bytes_eq (text_at p (slot s)) x) (bytes_eq (text_at p (slot t)) y) (λ h.
    ap (λ k. bytes_eq (text_at p (slot k)) y) (sym (same_slot_is s t e)) ∙ ap (λ z. bytes_eq z y) ((bytes_eq-Decides (text_at p (slot s)) x).0 h) ∙ not_true_false (bytes_eq x y) d)
