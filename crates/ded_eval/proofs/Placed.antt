-- What is asked of columns, one limit or text after another.
use Rattle.std.proofs.Common.{◌≡◌, ℕ, zero, suc, ◌<◌, Bool, true, List, [], ◌∷◌, ◌++◌, length, get_or, arith, ap, ◌∙◌}
use Rattle.std.specs.Prelude.{ℤ, slice_index_or}
use Rattle.std.proofs.lemmas.Bool.{and_parts}
use Rattle.ded_model.specs.declared.slot.Slot.{Slot}
use Rattle.ded_model.specs.declared.slot.Sort.TheVariants.{Rat}
use Rattle.ded_model.specs.Cell.{conj_holds}
use Rattle.ded_model.specs.Coefs.{AreCoefs}
use Rattle.ded_model.specs.Point.{same_slot, Point}
use Rattle.ded_model.proofs.Points.{same_slot_is}
use Rattle.ded_eval.specs.Within.{StandsAt, AreTermsOf}

-- ---- places

pub stands_at : (ss : List Slot) (i : ℕ) (d s : Slot) → i < length ss → same_slot (slice_index_or ss i d) s ≡ true → StandsAt ss i s
stands_at [] i d s l e = absurd (omega (arith, l))
stands_at (u ∷ ss) zero d s l e = same_slot_is u s e
stands_at (u ∷ ss) (suc i) d s l e = stands_at ss i d s (omega (arith, l)) e

-- ---- terms

-- a coefficient's slot is rational
pub coef_sort : (cs : List (Slot × ℤ)) (i : ℕ) (c : Slot × ℤ) → i < length cs → c ≡ get_or cs i c → AreCoefs cs → c.0.sort ≡ Rat
coef_sort [] i c l e k = absurd (omega (arith, l))
coef_sort (d ∷ cs) zero c l e k = ap (λ (x : Slot × ℤ). x.0.sort) e ∙ k.0
coef_sort (d ∷ cs) (suc i) c l e k = coef_sort cs i c (omega (arith, l)) e k.4

pub terms_push : (ss : List Slot) (cs : List (Slot × ℤ)) (ts : List (ℕ × ℤ)) (c : Slot × ℤ) (t : ℕ × ℤ) → c.0.sort ≡ Rat → StandsAt ss t.0 c.0 → t.1 ≡ c.1 → AreTermsOf ss cs ts → AreTermsOf ss (cs ++ c ∷ []) (ts ++ t ∷ [])
terms_push ss [] [] c t e a f k = (e, a, f, tt)
terms_push ss [] (u ∷ ts) c t e a f k = absurd k
terms_push ss (d ∷ cs) [] c t e a f k = absurd k
terms_push ss (d ∷ cs) (u ∷ ts) c t e a f k = (k.0, k.1, k.2, terms_push ss cs ts c t e a f k.3)

-- ---- atoms of a window

module _ {A : Type 0} (h : A → Point → Bool) (m : A → Slot → Bool) where
  -- an atom of the list holds where all do
  pub atom_holds-at : (atoms : List A) (i : ℕ) (a : A) (p : Point) → i < length atoms → a ≡ get_or atoms i a → conj_holds h atoms p ≡ true → h a p ≡ true
  atom_holds-at [] i a p l e k = absurd (omega (arith, l))
  atom_holds-at (b ∷ atoms) zero a p l e k = ap (λ x. h x p) e ∙ (and_parts _ _ k).0
  atom_holds-at (b ∷ atoms) (suc i) a p l e k = atom_holds-at atoms i a p (omega (arith, l)) e (and_parts (h b p) _ k).1
