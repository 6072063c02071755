-- The first slot of two lists of coefficients, read off at their places.
use Rattle.std.proofs.Common.{◌≡◌, ℕ, ◌+◌, ◌<◌, ◌≤◌, List, ◌∷◌, ◌⊎◌, inl, inr, length, get_or, drop, drop-cons, add-one, arith, refl, sym, ap, ◌∙◌, subst}
use Rattle.std.proofs.Math.ListN.{drop_of_length-le}
use Rattle.std.specs.Prelude.{ℤ, pos}
use Rattle.std.specs.Int.{w128}
use Rattle.std.proofs.Common.{to_z, of_z}
use Rattle.std.proofs.lemmas.Int.{to_z-of_z, fits_signed_from_abs}
use Rattle.ded_model.specs.declared.slot.Sort.TheVariants.{Rat}
use Rattle.ded_model.specs.declared.slot.Slot.{Slot}
use Rattle.ded_model.specs.Coefs.{AllAbove, AreCoefs}
use Rattle.ded_model.proofs.CoefLemmas.{above_lesser, equal_by_number}
use Rattle.ded_model.proofs.CoefLists.{drop-kept}
use Rattle.ded_row.specs.Merging.{IsFirst, in_left, in_right, in_both}

-- what is read where there is nothing
pub nothing : Slot × ℤ
nothing = (record { number = 0; sort = Rat }, pos 0)

-- the coefficient at a place
abbrev pub entry : List (Slot × ℤ) → ℕ → Slot × ℤ
entry xs i = get_or xs i (record { number = 0; sort = Rat }, pos 0)

-- as the code has it
abbrev pub in_code : ℤ → ℤ
in_code z = to_z w128 (of_z w128 z)

-- the first of it and the rest
pub split : (xs : List (Slot × ℤ)) (i : ℕ) → i < length xs → drop i xs ≡ entry xs i ∷ drop (i + 1) xs
split xs i h = drop-cons xs i (record { number = 0; sort = Rat }, pos 0) h ∙ ap (λ k. entry xs i ∷ drop k xs) (sym (add-one i))

-- the number as the code has it is the number
pub entry-in_code : (xs : List (Slot × ℤ)) (i : ℕ) → AreCoefs xs → i < length xs → in_code (entry xs i).1 ≡ (entry xs i).1
entry-in_code xs i h l = to_z-of_z w128 (entry xs i).1 (fits_signed_from_abs w128 (entry xs i).1 (subst AreCoefs (split xs i l) (drop-kept xs i h)).1)

-- so what is left begins with the coefficient as the code has it
split_in_code : (xs : List (Slot × ℤ)) (i : ℕ) → AreCoefs xs → i < length xs → drop i xs ≡ ((entry xs i).0, in_code (entry xs i).1) ∷ drop (i + 1) xs
split_in_code xs i h l = split xs i l ∙ ap (λ z. ((entry xs i).0, z) ∷ drop (i + 1) xs) (sym (entry-in_code xs i h l))

-- what is left stands above a lesser number than its first one's
above_rest : (n : ℕ) (ys : List (Slot × ℤ)) (j : ℕ) → AreCoefs ys → (j < length ys → n < (entry ys j).0.number) → AllAbove n (drop j ys)
above_rest n ys j h l = elim (below_or j (length ys)) [
  | inl k ↦ subst (AllAbove n) (sym (split ys j k)) (l k, above_lesser n (entry ys j).0.number (drop (j + 1) ys) (below (l k)) (subst AreCoefs (split ys j k) (drop-kept ys j h)).3)
  | inr k ↦ subst (AllAbove n) (sym (drop_of_length-le ys k)) tt
]
  where
    below_or : (k m : ℕ) → (k < m) ⊎ (m ≤ k)
    below_or k m = grind arith

    below : {k m : ℕ} → k < m → k ≤ m
    below h = omega arith

module _ (xs : List (Slot × ℤ)) (i : ℕ) (ys : List (Slot × ℤ)) (j : ℕ) (kx : AreCoefs xs) (ky : AreCoefs ys) where
  -- the first list is ahead
  pub first_left : i < length xs → (j < length ys → (entry xs i).0.number < (entry ys j).0.number) → IsFirst (drop i xs) (drop j ys) (entry xs i).0 (in_code (entry xs i).1) (pos 0) (drop (i + 1) xs) (drop j ys)
  first_left l h = in_left (split_in_code xs i kx l) refl refl (above_rest (entry xs i).0.number ys j ky h)

  -- the second one is
  pub first_right : j < length ys → (i < length xs → (entry ys j).0.number < (entry xs i).0.number) → IsFirst (drop i xs) (drop j ys) (entry ys j).0 (pos 0) (in_code (entry ys j).1) (drop i xs) (drop (j + 1) ys)
  first_right l h = in_right refl (split_in_code ys j ky l) refl (above_rest (entry ys j).0.number xs i kx h)

  -- both have the slot
  pub first_both : i < length xs → j < length ys → (entry xs i).0.number ≡ (entry ys j).0.number
      → IsFirst (drop i xs) (drop j ys) (entry xs i).0 (in_code (entry xs i).1) (in_code (entry ys j).1) (drop (i + 1) xs) (drop (j + 1) ys)
  first_both l k e =
      let same : (entry ys j).0 ≡ (entry xs i).0 = equal_by_number (entry ys j).0 (entry xs i).0 (subst AreCoefs (split ys j k) (drop-kept ys j ky)).0 (subst AreCoefs (split xs i l) (drop-kept xs i kx)).0 (sym e) in
      in_both (split_in_code xs i kx l) (split_in_code ys j ky k ∙ ap (λ s. (s, in_code (entry ys j).1) ∷ drop (j + 1) ys) same)
