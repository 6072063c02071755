-- Numbers and powers of ten.
use Rattle.std.proofs.Common.{◌≡◌, ◌<◌, ◌≤◌, ℕ, ◌+◌, ◌-◌, ◌*◌, ◌^◌, ap, ◌∙◌, arith}
use Rattle.std.proofs.lemmas.Grind.{pow_more}
use Rattle.std.proofs.Math.Nat.{mul-le-mul_left, mul-le-mul_right, one-le-pow}

-- one digit more
step : (n k p : ℕ) → k < 10 * (n + 1) → (k + 1) * p ≤ (n + 1) * (p * 10)
step n k p less = let h : (k + 1) * p ≤ (10 * (n + 1)) * p = mul-le-mul_right p (omega (arith, less)) in omega (arith, h)

less_one : (most count : ℕ) → count < most → most - count ≡ (most - (count + 1)) + 1
less_one most count h = omega (arith, h)

power_more : (most count : ℕ) → count < most → 10 ^ (most - count) ≡ 10 ^ (most - (count + 1)) * 10
power_more most count h = ap (λ (k : ℕ). 10 ^ k) (less_one most count h) ∙ pow_more 10 (most - (count + 1))

pub next_fits : (n k most count bound : ℕ) → k < 10 * (n + 1) → count < most → (n + 1) * 10 ^ (most - count) ≤ bound → (k + 1) * 10 ^ (most - (count + 1)) ≤ bound
next_fits n k most count bound less more h =
    let p = 10 ^ (most - (count + 1)) in
    let s : (k + 1) * p ≤ (n + 1) * (p * 10) = step n k p less in
    let e : (n + 1) * 10 ^ (most - count) ≡ (n + 1) * (p * 10) = ap (λ (q : ℕ). (n + 1) * q) (power_more most count more) in
    omega (arith, s, e, h)

pub next_below : (n k most count m : ℕ) → k < 10 * (n + 1) → count < most → m < (k + 1) * 10 ^ (most - (count + 1)) → m < (n + 1) * 10 ^ (most - count)
next_below n k most count m less more h =
    let p = 10 ^ (most - (count + 1)) in
    let s : (k + 1) * p ≤ (n + 1) * (p * 10) = step n k p less in
    let e : (n + 1) * 10 ^ (most - count) ≡ (n + 1) * (p * 10) = ap (λ (q : ℕ). (n + 1) * q) (power_more most count more) in
    omega (arith, s, e, h)

-- a number that may be followed by no more digits is that short
pub stops : (n k : ℕ) → n < (n + 1) * 10 ^ k
stops n k = let h : (n + 1) * 1 ≤ (n + 1) * 10 ^ k = mul-le-mul_left (n + 1) (one-le-pow k 10 (omega arith)) in omega (arith, h)

pub below : (n k bound : ℕ) → (n + 1) * 10 ^ k ≤ bound → n < bound
below n k bound h = let s = stops n k in omega (arith, s, h)
