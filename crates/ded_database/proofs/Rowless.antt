-- Tuples without rows, gone through.
use Rattle.std.proofs.Common.{◌≡◌, ℕ, ◌+◌, ◌<◌, inl, inr, List, [], ◌∷◌, ◌++◌, length, take, get_or, append-nil, ap, ◌∙◌, subst}
use Rattle.ded_model.specs.declared.tuple.ThemeAtom.{ThemeAtom}
use Rattle.ded_model.specs.declared.tuple.BothAtom.TheVariants.{Second}
use Rattle.ded_model.specs.Lines.{In, IsSubset, atoms_lines, tuples_lines}
use Rattle.ded_model.specs.Row.{Atom}
use Rattle.ded_model.proofs.Members.{In-split}
use Rattle.ded_model.proofs.TupleLists.{tuples_lines-push}
use Rattle.ded_genrel.proofs.Items.{done_to}
use Rattle.ded_atoms.proofs.TuplesRead.{atoms_lines-append}

-- one text atom more
pub rowless_atom : (t : List Atom) (i : ℕ) (a : Atom) (b : ThemeAtom) → i < length t → a ≡ get_or t i a → a ≡ Second b → IsSubset (atoms_lines (take i t)) [] → IsSubset (atoms_lines (take (i + 1) t)) []
rowless_atom t i a b l e s k = λ x h. k x (subst (In x)
    (ap atoms_lines (done_to t i a l e) ∙ atoms_lines-append (take i t) (a ∷ []) ∙ ap (λ y. atoms_lines (take i t) ++ atoms_lines (y ∷ [])) s ∙ append-nil (atoms_lines (take i t))) h)

-- one tuple more
pub rowless_tuple : (ts : List (List Atom)) (i : ℕ) (t : List Atom) → i < length ts → t ≡ get_or ts i t → IsSubset (atoms_lines t) [] → IsSubset (tuples_lines (take i ts)) [] → IsSubset (tuples_lines (take (i + 1) ts)) []
rowless_tuple ts i t l e h k = λ x j. elim (In-split x (tuples_lines (take i ts)) (atoms_lines t) (subst (In x) (ap tuples_lines (done_to ts i t l e) ∙ tuples_lines-push (take i ts) t) j)) [ inl y ↦ k x y | inr y ↦ h x y ]
