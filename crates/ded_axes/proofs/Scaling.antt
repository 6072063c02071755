-- Products that are divided by halves of a factor.
use Rattle.std.proofs.Common.{◌≡◌, ◌<◌, ◌≤◌, ℕ, ◌+◌, ◌*◌, ◌/◌, ◌%◌, sym, ap, ap₂, ◌∙◌, arith}
use Rattle.std.proofs.Math.Nat.{div-add-mod, mod-lt, div-eq_of_lt-le, div-le_of_le-mul, mul-le-mul_right}

-- the quotient is the one number with a rest below the divisor
pub quotient_is : (n m q r : ℕ) → r < m → m * q + r ≡ n → n / m ≡ q
quotient_is n m q r less e = div-eq_of_lt-le m (omega (arith, e)) (omega (arith, e, less))

pub rest_is : (n m q r : ℕ) → r < m → m * q + r ≡ n → n % m ≡ r
rest_is n m q r less e =
    let h = div-add-mod n m in
    let f : m * (n / m) ≡ m * q = ap (λ (k : ℕ). m * k) (quotient_is n m q r less e) in
    omega (arith, h, e, f)

-- what the half of a count leaves, twice, and the number once more where the count is odd
record Halved (n k m odd : ℕ) : Type 0 where
  whole : m * (2 * ((n * (k / 2)) / m) + (2 * ((n * (k / 2)) % m) + odd) / m) + (2 * ((n * (k / 2)) % m) + odd) % m ≡ n * k
  less : (2 * ((n * (k / 2)) % m) + odd) % m < m

halved : (n k m odd : ℕ) → 0 < m → odd ≡ n * (k % 2) → Halved n k m odd
halved n k m odd positive e =
    let a = div-add-mod (n * (k / 2)) m in
    let left = 2 * ((n * (k / 2)) % m) + odd in
    let b = div-add-mod left m in
    let c : n * k ≡ n * (2 * (k / 2) + k % 2) = ap (λ (j : ℕ). n * j) (sym (div-add-mod k 2)) in
    record {
      whole = omega (arith, a, b, c, e);
      less = mod-lt left positive;
    }

module _ (n k m odd half rest : ℕ) (positive : 0 < m) (is_odd : odd ≡ n * (k % 2)) (is_half : half ≡ (n * (k / 2)) / m) (is_rest : rest ≡ (n * (k / 2)) % m) where
  pub halves_quotient : 2 * half + (2 * rest + odd) / m ≡ (n * k) / m
  halves_quotient =
      let h = halved n k m odd positive is_odd in
      ap₂ (λ (x y : ℕ). 2 * x + (2 * y + odd) / m) is_half is_rest ∙ sym (quotient_is (n * k) m _ _ h.less h.whole)

  pub halves_rest : (2 * rest + odd) % m ≡ (n * k) % m
  halves_rest =
      let h = halved n k m odd positive is_odd in
      ap (λ (y : ℕ). (2 * y + odd) % m) is_rest ∙ sym (rest_is (n * k) m _ _ h.less h.whole)

-- a part of a whole, so often, has the whole in it at most so often
pub at_most : (n k m : ℕ) → 0 < m → n ≤ m → (n * k) / m ≤ k
at_most n k m positive part = div-le_of_le-mul m (mul-le-mul_right k part)

odd_once : (n k : ℕ) → k % 2 ≡ 1 → n ≡ n * (k % 2)
odd_once n k e = sym (ap (λ (j : ℕ). n * j) e ∙ omega arith)
