-- The lines of rows have no more digits than the rows.
use Rattle.std.proofs.Common.{◌≡◌, ◌≤◌, ℕ, Bool, true, false, List, [], ◌∷◌, map, inl, inr, arith, refl, sym, subst, true≢false}
use Rattle.std.specs.Prelude.{ℤ}
use Rattle.ded_num.specs.Length.{IsWithin}
use Rattle.ded_num.proofs.Lengths.{within_from_length}
use Rattle.ded_model.specs.declared.slot.Slot.{Slot}
use Rattle.ded_model.specs.declared.slot.Sort.TheVariants.{Rat}
use Rattle.ded_model.specs.declared.tuple.BothAtom.TheVariants.{First, Second}
use Rattle.ded_model.specs.Constraint.{LinearConstraint}
use Rattle.ded_model.specs.Point.{same_slot}
use Rattle.ded_model.specs.Coefs.{AreCoefs, coef_at}
use Rattle.ded_model.specs.Row.{Atom}
use Rattle.ded_model.specs.Normal.{IsNormalTuple}
use Rattle.ded_model.specs.Lines.{row_lines, atoms_lines}
use Rattle.ded_model.specs.Width.{greatest_length, row_length, tuple_length}
use Rattle.ded_model.proofs.Points.{same_slot_is}
use Rattle.ded_model.proofs.Members.{or_split}
use Rattle.ded_model.proofs.CoefLemmas.{coef_at-here, coef_at-past}
use Rattle.ded_model.proofs.LineLengths.{zero_within, line_with-within}
use Rattle.ded_model.proofs.LineSlots.{has_slot, line_slots}
use Rattle.ded_width.specs.Reach.{AreAscending, AreAscendingRows}
use Rattle.ded_width.proofs.Reaches.{IsInReach, nothing, of_length, both}

-- ---- rows

-- the coefficient of a slot is one of the numbers, or 0
coef_within : (cs : List (Slot × ℤ)) (s : Slot) (k : ℕ) → AreAscending cs → greatest_length (map (λ c. c.1) cs) ≤ k → IsWithin k (coef_at cs s)
coef_within [] s k a h = zero_within k
coef_within (x ∷ cs) s k a h = go (same_slot x.0 s) refl (coef_within cs s k a.2 (omega (arith, h)))
  where
    go : (b : Bool) → same_slot x.0 s ≡ b → IsWithin k (coef_at cs s) → IsWithin k (coef_at (x ∷ cs) s)
    go true e ih = subst (IsWithin k) (sym (coef_at-here s x cs e a.1)) (within_from_length x.1 k (omega (arith, h)))
    go false e ih = subst (IsWithin k) (sym (coef_at-past s x cs e)) ih

-- a slot of ascending coefficients is rational
pub slot_rational : (cs : List (Slot × ℤ)) (t : Slot) → AreAscending cs → has_slot cs t ≡ true → t.sort ≡ Rat
slot_rational [] t a h = absurd (true≢false (sym h))
slot_rational (c ∷ cs) t a h = elim (or_split (same_slot c.0 t) _ h) [
  | inl x ↦ subst (λ (u : Slot). u.sort ≡ Rat) (same_slot_is c.0 t x) a.0
  | inr x ↦ slot_rational cs t a.2 x
]

-- the line of a row
pub row_in_reach : (r : LinearConstraint) → AreAscending r.coefs → IsInReach (row_length r) 0 (row_lines r) false
row_in_reach r a =
    of_length (row_length r) (row_lines r)
    (line_with-within r.coefs r.constant (row_length r) (λ t. coef_within r.coefs t (row_length r) a (omega arith)) (within_from_length r.constant (row_length r) (omega arith)))
    (λ l i t m. slot_rational r.coefs t a (line_slots r.coefs r.constant l t i m))

-- ---- lists of atoms

-- the lines of its rows
pub atoms_in_reach : (t : List Atom) → AreAscendingRows t → IsInReach (tuple_length t) 0 (atoms_lines t) false
atoms_in_reach [] h = nothing 0 0
atoms_in_reach (First r ∷ t) h = both _ _ _ _ _ _ _ _ (row_in_reach r h.0) (atoms_in_reach t h.1)
atoms_in_reach (Second a ∷ t) h = atoms_in_reach t h

-- what coefficients keep says that they ascend
pub coefs_ascending : (cs : List (Slot × ℤ)) → AreCoefs cs → AreAscending cs
coefs_ascending [] h = tt
coefs_ascending (c ∷ cs) h = (h.0, h.3, coefs_ascending cs h.4)

-- so do those of a normal tuple
pub tuple_ascending : (t : List Atom) → IsNormalTuple t → AreAscendingRows t
tuple_ascending [] n = tt
tuple_ascending (First r ∷ t) n = (coefs_ascending r.coefs n.0.0, tuple_ascending t n.2)
tuple_ascending (Second a ∷ t) n = tuple_ascending t n.2
