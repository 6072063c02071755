-- Lists of conjunctions of rows and text atoms, written as normal tuples.
use Rattle.std.proofs.Common.{◌≡◌, true, ◌||◌, List, [], ◌∷◌, ◌++◌, ⊎_elim, refl, sym, ap₂, ◌∙◌, subst}
use Rattle.ded_model.specs.declared.slot.Slot.{Slot}
use Rattle.ded_model.specs.Point.{Point}
use Rattle.ded_model.specs.Row.{Atom, tuple_holds, tuple_mentions, tuples_mention}
use Rattle.ded_model.specs.Lines.{IsSubset, atoms_lines, tuples_lines}
use Rattle.ded_model.proofs.Rows.{or_left, or_right}
use Rattle.ded_model.proofs.Members.{subset_none, subset_append, or_split}
use Rattle.ded_model.proofs.TupleLists.{tuples_hold-push, tuples_lines-push}
use Rattle.ded_model.proofs.SlotLists.{tuples_mention-push}
use Rattle.ded_atoms.specs.Written.{IsWrittenAs}

-- ---- one tuple more

pub written_none : IsWrittenAs [] []
written_none = record { holds = λ p. refl; slots = λ s u. u; lines = subset_none [] }

pub written_more : (cs ts ts' : List (List Atom)) (c t : List Atom) → ts' ≡ ts ++ t ∷ [] → ((p : Point) → tuple_holds t p ≡ tuple_holds c p) → ((s : Slot) → tuple_mentions t s ≡ true → tuple_mentions c s ≡ true) → IsSubset (atoms_lines t) (atoms_lines c)
    → IsWrittenAs cs ts → IsWrittenAs (cs ++ c ∷ []) ts'
written_more cs ts ts' c t e h m l k = subst (IsWrittenAs (cs ++ c ∷ [])) (sym e) (record {
  holds = λ p. tuples_hold-push ts t p ∙ ap₂ (λ a b. a || b) (k.holds p) (h p) ∙ sym (tuples_hold-push cs c p);
  slots = λ s u. tuples_mention-push cs c s
      ∙ ⊎_elim (λ (a : tuples_mention ts s ≡ true). or_left _ _ (k.slots s a)) (λ b. or_right (tuples_mention cs s) _ (m s b)) (or_split _ _ (sym (tuples_mention-push ts t s) ∙ u));
  lines = subst (λ ls. IsSubset ls (tuples_lines (cs ++ c ∷ []))) (sym (tuples_lines-push ts t))
      (subst (IsSubset (tuples_lines ts ++ atoms_lines t)) (sym (tuples_lines-push cs c)) (subset_append (tuples_lines ts) (atoms_lines t) (tuples_lines cs) (atoms_lines c) k.lines l));
})
