-- Lemmas that belong into lower crates.
--
-- Into ded_complement: what binary searches for the first and the last of a text find. Its `text_between` is this at its own ranks.
use Rattle.std.proofs.Common.{◌≡◌, ℕ, zero, suc, true, false, cond, List, [], ◌∷◌, take, drop, arith, refl, ap, ◌∙◌}
use Rattle.std.specs.Prelude.{filter, nat_eq, nat_lt, nat_le}
use Rattle.std.specs.List.Sorted.{IsPartitionPoint}
use Rattle.std.proofs.lemmas.Bool.Decides.{nat_tests}

below_one : (n : ℕ) → nat_lt n 1 ≡ true → nat_eq n 1 ≡ false
below_one n h = grind (arith, nat_tests)

just_one : (n : ℕ) → nat_lt n 1 ≡ false → nat_le n 1 ≡ true → nat_eq n 1 ≡ true
just_one n h k = grind (arith, nat_tests)

above_one : (n : ℕ) → nat_le n 1 ≡ false → nat_eq n 1 ≡ false
above_one n h = grind (arith, nat_tests)

module _ {X : Type 0} (r : X → ℕ) where
  abbrev IsFirst : List X → ℕ → Type 0
  IsFirst xs i = IsPartitionPoint (λ x. nat_lt (r x) 1 ≡ true) (λ x. nat_lt (r x) 1 ≡ false) xs i

  abbrev IsLast : List X → ℕ → Type 0
  IsLast xs j = IsPartitionPoint (λ x. nat_le (r x) 1 ≡ true) (λ x. nat_le (r x) 1 ≡ false) xs j

  -- without the element at the front
  front_tail : (P Q : X → Type 0) (x : X) (xs : List X) (i : ℕ) → IsPartitionPoint P Q (x ∷ xs) (suc i) → IsPartitionPoint P Q xs i
  front_tail P Q x xs i a = (λ k d le lt. a.0 (suc k) d (omega arith) (omega (arith, lt)), λ k d le lt. a.1 (suc k) d (omega (arith, le)) (omega (arith, lt)))

  none_tail : (P Q : X → Type 0) (x : X) (xs : List X) → IsPartitionPoint P Q (x ∷ xs) 0 → IsPartitionPoint P Q xs 0
  none_tail P Q x xs a = (λ k d le lt. absurd (omega (arith, lt)), λ k d le lt. a.1 (suc k) d (omega arith) (omega (arith, lt)))

  -- between the elements below rank 1 and those above it stand those of it
  pub rank_between : (xs : List X) (i j : ℕ) → IsFirst xs i → IsLast (drop i xs) j → filter (λ x. nat_eq (r x) 1) xs ≡ take j (drop i xs)
  rank_between [] zero zero a b = refl
  rank_between [] zero (suc j) a b = refl
  rank_between [] (suc i) zero a b = refl
  rank_between [] (suc i) (suc j) a b = refl
  rank_between (x ∷ xs) (suc i) j a b =
      ap (λ z. cond z (x ∷ filter (λ y. nat_eq (r y) 1) xs) (filter (λ y. nat_eq (r y) 1) xs)) (below_one (r x) (a.0 zero x (omega arith) (omega arith)))
      ∙ rank_between xs i j (front_tail (λ y. nat_lt (r y) 1 ≡ true) (λ y. nat_lt (r y) 1 ≡ false) x xs i a) b
  rank_between (x ∷ xs) zero zero a b =
      ap (λ z. cond z (x ∷ filter (λ y. nat_eq (r y) 1) xs) (filter (λ y. nat_eq (r y) 1) xs)) (above_one (r x) (b.1 zero x (omega arith) (omega arith)))
      ∙ rank_between xs zero zero (none_tail (λ y. nat_lt (r y) 1 ≡ true) (λ y. nat_lt (r y) 1 ≡ false) x xs a) (none_tail (λ y. nat_le (r y) 1 ≡ true) (λ y. nat_le (r y) 1 ≡ false) x xs b)
  rank_between (x ∷ xs) zero (suc j) a b =
      ap (λ z. cond z (x ∷ filter (λ y. nat_eq (r y) 1) xs) (filter (λ y. nat_eq (r y) 1) xs)) (just_one (r x) (a.1 zero x (omega arith) (omega arith)) (b.0 zero x (omega arith) (omega arith)))
      ∙ ap (λ ys. x ∷ ys) (rank_between xs zero j (none_tail (λ y. nat_lt (r y) 1 ≡ true) (λ y. nat_lt (r y) 1 ≡ false) x xs a) (front_tail (λ y. nat_le (r y) 1 ≡ true) (λ y. nat_le (r y) 1 ≡ false) x xs j b))
