-- Lists without one of their elements, and what conjunctions mention that are parts of others.
use Rattle.std.proofs.Common.{◌≡◌, ℕ, zero, suc, ◌+◌, ◌-◌, ◌<◌, ◌≤◌, add-one, length-drop, length, take, drop, get_or, arith, List, [], ◌∷◌, ◌++◌, inl, inr, Bool, true, refl, ap, ◌∙◌, subst}
use Rattle.ded_model.specs.declared.slot.Slot.{Slot}
use Rattle.ded_model.specs.Lines.{Line, In, IsSubset}
use Rattle.ded_model.proofs.Rows.{or_left, or_right}
use Rattle.ded_model.proofs.Members.{In-split, In-left, In-right, or_split}
use Rattle.ded_theory.specs.Conjunctions.{conj_mentions, conj_lines}
use Rattle.ded_model.specs.Sublists.{IsSublist}
use Rattle.ded_model.proofs.Sublists.{sublist_refl}

module _ {A : Type 0} where
  -- all but the element at the index
  pub sublist_without : (xs : List A) (k : ℕ) → k < length xs → IsSublist (take k xs ++ drop (suc k) xs) xs
  sublist_without [] k lt = absurd (omega (arith, lt))
  sublist_without (x ∷ xs) zero lt = inl (tt, sublist_refl _ xs)
  sublist_without (x ∷ xs) (suc k) lt = inr (take k xs ++ drop (suc k) xs, refl, sublist_without xs k (omega (arith, lt)))

  pub length_without : (xs : List A) (k : ℕ) → k < length xs → length (take k xs ++ drop (suc k) xs) < length xs
  length_without [] k lt = absurd (omega (arith, lt))
  length_without (x ∷ xs) zero lt = omega arith
  length_without (x ∷ xs) (suc k) lt = let r = length_without xs k (omega (arith, lt)) in omega (arith, r)

  pub sublist_slots : (m : A → Slot → Bool) (s : Slot) (xs ys : List A) → IsSublist xs ys → conj_mentions m xs s ≡ true → conj_mentions m ys s ≡ true
  sublist_slots m s xs [] h e = subst (λ us. conj_mentions m us s ≡ true) h e
  sublist_slots m s xs (y ∷ ys) (inl h) e = or_right (m y s) (conj_mentions m ys s) (sublist_slots m s xs ys h.1 e)
  sublist_slots m s xs (y ∷ ys) (inr h) e = elim (or_split (m y s) (conj_mentions m h.0 s) (subst (λ us. conj_mentions m us s ≡ true) h.1 e)) [
    | inl a ↦ or_left (m y s) (conj_mentions m ys s) a
    | inr b ↦ or_right (m y s) (conj_mentions m ys s) (sublist_slots m s h.0 ys h.2 b)
  ]

  pub sublist_lines : (l : A → List Line) (xs ys : List A) → IsSublist xs ys → IsSubset (conj_lines l xs) (conj_lines l ys)
  sublist_lines l xs [] h x i = subst (λ us. In x (conj_lines l us)) h i
  sublist_lines l xs (y ∷ ys) (inl h) x i = In-right x (l y) (conj_lines l ys) (sublist_lines l xs ys h.1 x i)
  sublist_lines l xs (y ∷ ys) (inr h) x i = elim (In-split x (l y) (conj_lines l h.0) (subst (λ us. In x (conj_lines l us)) h.1 i)) [
    | inl a ↦ In-left x (l y) (conj_lines l ys) a
    | inr b ↦ In-right x (l y) (conj_lines l ys) (sublist_lines l h.0 ys h.2 x b)
  ]

  -- what is taken of the elements after the index is all of them
  taken_all : (xs : List A) (n : ℕ) → length xs ≤ n → take n xs ≡ xs
  taken_all [] zero h = refl
  taken_all [] (suc n) h = refl
  taken_all (x ∷ xs) zero h = absurd (omega (arith, h))
  taken_all (x ∷ xs) (suc n) h = ap (λ ys. x ∷ ys) (taken_all xs n (omega (arith, h)))

  pub after_taken : (xs : List A) (k : ℕ) → take (length xs - (k + 1)) (drop (k + 1) xs) ≡ drop (suc k) xs
  after_taken xs k = ap (λ n. take (length xs - n) (drop n xs)) (add-one k) ∙ taken_all (drop (suc k) xs) (length xs - suc k) (omega (arith, length-drop (suc k) xs))

  -- ---- an element and those before and after it

  pub parted_at : (before : List A) (a : A) (after : List A) → a ≡ get_or (before ++ a ∷ after) (length before) a
  parted_at [] a after = refl
  parted_at (b ∷ before) a after = parted_at before a after

  pub parted_others : (before : List A) (a : A) (after : List A) → take (length before) (before ++ a ∷ after) ++ drop (suc (length before)) (before ++ a ∷ after) ≡ before ++ after
  parted_others [] a after = refl
  parted_others (b ∷ before) a after = ap (λ us. b ∷ us) (parted_others before a after)

  pub parted_length : (before : List A) (a : A) (after : List A) → length before < length (before ++ a ∷ after)
  parted_length [] a after = omega arith
  parted_length (b ∷ before) a after = let r = parted_length before a after in omega (arith, r)
