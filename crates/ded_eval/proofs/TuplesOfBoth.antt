-- The atoms of two tuples, as one tuple.
use Rattle.std.proofs.Common.{◌≡◌, true, ◌||◌, Option, Some, None, List, ◌++◌, sym, ap, ◌∙◌, subst}
use Rattle.std.proofs.lemmas.List.Folds.{list_any-append}
use Rattle.ded_model.specs.declared.slot.Slot.{Slot}
use Rattle.ded_model.specs.Point.{Point}
use Rattle.ded_model.specs.Row.{Atom, row_holds, theme_holds, atom_mentions, tuple_holds, tuple_mentions}
use Rattle.ded_model.specs.Cell.{conj_holds, HoldsNowhere}
use Rattle.ded_model.specs.Lines.{IsSubset, atoms_lines}
use Rattle.ded_model.proofs.TupleLists.{together}
use Rattle.ded_theory.specs.Both.{by_kind}
use Rattle.ded_theory.proofs.Shared.{holds_alike}
use Rattle.ded_algebra.specs.Evaluation.{IsMet}
use Rattle.ded_atoms.specs.Kept.{IsReducedPart}
use Rattle.ded_atoms.proofs.TupleParts.{part_slots, part_lines}
use Rattle.ded_atoms.proofs.TuplesRead.{atoms_lines-append}

both_mention : (t u : List Atom) (s : Slot) → tuple_mentions (t ++ u) s ≡ (tuple_mentions t s || tuple_mentions u s)
unfolding tuple_mentions
both_mention t u s = list_any-append (λ a. atom_mentions a s) t u

-- atoms that hold nowhere
pub met_nowhere : (t u atoms : List Atom) → atoms ≡ t ++ u → HoldsNowhere (conj_holds (by_kind row_holds theme_holds) atoms) → IsMet t u None
met_nowhere t u atoms e n = λ p i. sym (together t u p) ∙ sym (holds_alike (t ++ u) p) ∙ ap (λ xs. conj_holds (by_kind row_holds theme_holds) xs p) (sym e) ∙ n p i

-- and else what is left of the tuple of all atoms
pub met : (t u atoms both : List Atom) (left : Option (List Atom)) → atoms ≡ t ++ u → ((p : Point) → tuple_holds both p ≡ tuple_holds atoms p) → ((s : Slot) → tuple_mentions both s ≡ true → tuple_mentions atoms s ≡ true)
    → IsSubset (atoms_lines both) (atoms_lines atoms) → IsReducedPart both left → IsMet t u left
met t u atoms both None e holds slots lines k = λ p i. sym (together t u p) ∙ ap (λ xs. tuple_holds xs p) (sym e) ∙ sym (holds p) ∙ k p i
met t u atoms both (Some v) e holds slots lines k = record {
  holds = λ p i. k.0 p i ∙ holds p ∙ ap (λ xs. tuple_holds xs p) e ∙ together t u p;
  normal = k.2;
  slots = λ s h. sym (both_mention t u s) ∙ ap (λ xs. tuple_mentions xs s) (sym e) ∙ slots s (part_slots v both k.1 s h);
  lines = λ l i. subst (λ ls. IsSubset ls (atoms_lines t ++ atoms_lines u)) (sym (ap atoms_lines e ∙ atoms_lines-append t u)) (λ m j. j) l (lines l (part_lines v both k.1 l i));
}
