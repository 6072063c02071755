-- A number has at most k digits exactly where its magnitude is below 2 ^ k.
use Rattle.std.proofs.Common.{◌≡◌, ℕ, ◌+◌, ◌*◌, ◌^◌, ◌<◌, ◌≤◌, ◌⊎◌, length, refl, arith, subst, le_antisymm, inl, inr, add-one}
use Rattle.std.specs.Prelude.{ℤ, unsigned_abs}
use Rattle.std.specs.Int.Digits.{digits_of}
use Rattle.std.proofs.lemmas.Int.Digits.{length-digits_of-le, number_lt, all_below_base_digits_of, number_digits_of}
use Rattle.std.proofs.Math.Pow.{pow_mono}
use Rattle.ded_num.specs.Length.{length_of, IsWithin}

-- a magnitude below 2 ^ k has at most k digits
pub length_of-le : (z : ℤ) (k : ℕ) → IsWithin k z → length_of z ≤ k
unfolding length_of
length_of-le z k h = length-digits_of-le 2 k (unsigned_abs z) (omega arith) h

-- a magnitude is below 2 ^ its length
pub within_length : (z : ℤ) → IsWithin (length_of z) z
unfolding length_of
within_length z =
    let n : ℕ = unsigned_abs z in
    subst (λ m. m < 2 ^ length (digits_of 2 n)) (number_digits_of 2 n (omega arith)) (number_lt 2 (digits_of 2 n) (all_below_base_digits_of 2 n (omega arith)))

-- at most k digits are below 2 ^ k
pub within_from_length : (z : ℤ) (k : ℕ) → length_of z ≤ k → IsWithin k z
within_from_length z k h = let p : 2 ^ length_of z ≤ 2 ^ k = pow_mono h in omega (arith, within_length z)

-- two numbers are in order one way or the other
pub below_or : (k m : ℕ) → (k < m) ⊎ (m ≤ k)
below_or k m = grind arith

-- the same by cases, since at most k digits would be below 2 ^ k
longer : (z : ℤ) (k m : ℕ) → length_of z ≡ m → (IsWithin k z → ⊥) → (k < m) ⊎ (m ≤ k) → k < length_of z
longer z k m e above (inl p) = omega (arith, e, p)
longer z k m e above (inr p) = absurd (above (within_from_length z k (omega (arith, e, p))))

-- a magnitude that is not below 2 ^ k has more than k digits
pub length_of-gt : (z : ℤ) (k : ℕ) → (IsWithin k z → ⊥) → k < length_of z
length_of-gt z k above = longer z k (length_of z) refl above (below_or k (length_of z))

-- what is from 2 ^ k on and below 2 ^ m shows that m is above k
least : (n k m : ℕ) → n < 2 ^ m → 2 ^ k ≤ n → (k < m) ⊎ (m ≤ k) → k + 1 ≤ m
least n k m h l (inl p) = omega arith
least n k m h l (inr p) = let q : 2 ^ m ≤ 2 ^ k = pow_mono p in absurd (omega arith)

-- a magnitude from 2 ^ k on and below 2 ^ (k + 1) has k + 1 digits
pub length_of_is : (z : ℤ) (k : ℕ) → 2 ^ k ≤ unsigned_abs z → unsigned_abs z < 2 * 2 ^ k → k + 1 ≡ length_of z
length_of_is z k low high =
    let high' : unsigned_abs z < 2 ^ (k + 1) = rw add-one (omega arith) in
    le_antisymm (least (unsigned_abs z) k (length_of z) (within_length z) low (below_or k (length_of z))) (length_of-le z (k + 1) high')

-- 0 has no digits
pub length_of_zero : (z : ℤ) → unsigned_abs z ≡ 0 → 0 ≡ length_of z
length_of_zero z e = let h : length_of z ≤ 0 = length_of-le z 0 (omega arith) in omega arith
