-- Decimals as loops find their digits.
use Rattle.std.proofs.Common.{◌≡◌, ◌≢◌, ℕ, zero, suc, ◌+◌, ◌-◌, ◌*◌, ◌<◌, ◌≤◌, List, [], ◌∷◌, ◌++◌, length, take, drop, get_or, refl, sym, ap, ◌∙◌, arith, add-one, append-nil, append_assoc}
use Rattle.std.specs.Prelude.{◌^◌, ◌==◌, nat_le, Bool, true, false}
use Rattle.std.proofs.Math.Nat.{le-mul_of_pos_right, pow-suc}
use Rattle.std.proofs.Math.Seq.{take-suc}
use Rattle.std.proofs.lemmas.Bool.Decides.{nat_tests}
use Rattle.ded_lex.proofs.Counting.{drop_first}
use Rattle.ded_terminals.specs.Symbols.{number_from, number_of, before_point, behind_point, trimmed_to, trimmed}
use Rattle.ded_terminals.specs.Literals.{capped}
use Rattle.ded_terminals.proofs.Numbers.{capped_same}

-- ---- the point

take_first : (bs : List ℕ) (i : ℕ) → i < length bs → take (i + 1) bs ≡ take i bs ++ get_or bs i 0 ∷ []
take_first bs i lt = ap (λ k. take k bs) (add-one i) ∙ take-suc bs i 0 lt

other_before : (b : ℕ) (bs : List ℕ) → b ≢ 46 → before_point (b ∷ bs) ≡ b ∷ before_point bs
other_before b bs ne = let e : (b == 46) ≡ false = grind (arith, nat_tests) in rw e refl

other_behind : (b : ℕ) (bs : List ℕ) → b ≢ 46 → behind_point (b ∷ bs) ≡ behind_point bs
other_behind b bs ne = let e : (b == 46) ≡ false = grind (arith, nat_tests) in rw e refl

pub before_on : (bs : List ℕ) (i : ℕ) → i < length bs → get_or bs i 0 ≢ 46 → before_point bs ≡ take i bs ++ before_point (drop i bs) → before_point bs ≡ take (i + 1) bs ++ before_point (drop (i + 1) bs)
before_on bs i lt ne e =
    e ∙ ap (λ (xs : List ℕ). take i bs ++ xs) (ap before_point (drop_first bs i lt) ∙ other_before (get_or bs i 0) (drop (i + 1) bs) ne)
    ∙ sym (append_assoc (take i bs) (get_or bs i 0 ∷ []) (before_point (drop (i + 1) bs)))
    ∙ ap (λ (xs : List ℕ). xs ++ before_point (drop (i + 1) bs)) (sym (take_first bs i lt))

pub before_here : (bs : List ℕ) (i : ℕ) → i < length bs → get_or bs i 0 ≡ 46 → before_point bs ≡ take i bs ++ before_point (drop i bs) → take i bs ≡ before_point bs
before_here bs i lt is e =
    sym (e ∙ ap (λ (xs : List ℕ). take i bs ++ before_point xs) (drop_first bs i lt ∙ ap (λ (b : ℕ). b ∷ drop (i + 1) bs) is) ∙ append-nil (take i bs))

pub behind_on : (bs : List ℕ) (i : ℕ) → i < length bs → get_or bs i 0 ≢ 46 → behind_point bs ≡ behind_point (drop i bs) → behind_point bs ≡ behind_point (drop (i + 1) bs)
behind_on bs i lt ne e = e ∙ ap behind_point (drop_first bs i lt) ∙ other_behind (get_or bs i 0) (drop (i + 1) bs) ne

pub behind_here : (bs : List ℕ) (i : ℕ) → i < length bs → get_or bs i 0 ≡ 46 → behind_point bs ≡ behind_point (drop i bs) → drop (i + 1) bs ≡ behind_point bs
behind_here bs i lt is e = sym (e ∙ ap behind_point (drop_first bs i lt ∙ ap (λ (b : ℕ). b ∷ drop (i + 1) bs) is))

-- ---- zeros at the end

trim_zero : (ds : List ℕ) → trimmed (ds ++ 48 ∷ []) ≡ trimmed ds
trim_zero [] = refl
trim_zero (d ∷ ds) = ap (trimmed_to d) (trim_zero ds)

behind_some : (d b : ℕ) (ds : List ℕ) → trimmed_to d (ds ++ b ∷ []) ≡ d ∷ (ds ++ b ∷ [])
behind_some d b [] = refl
behind_some d b (x ∷ xs) = refl

trim_other : (ds : List ℕ) (b : ℕ) → (b == 48) ≡ false → trimmed (ds ++ b ∷ []) ≡ ds ++ b ∷ []
trim_other [] b e = rw e refl
trim_other (d ∷ ds) b e = ap (trimmed_to d) (trim_other ds b e) ∙ behind_some d b ds

last_of : (ds : List ℕ) (n : ℕ) → 0 < n → n ≤ length ds → take n ds ≡ take (n - 1) ds ++ get_or ds (n - 1) 0 ∷ []
last_of ds n some le = let same : n ≡ n - 1 + 1 = omega (arith, some) in ap (λ k. take k ds) same ∙ take_first ds (n - 1) (omega (arith, some, le))

pub trim_on : (ds : List ℕ) (n : ℕ) → 0 < n → n ≤ length ds → get_or ds (n - 1) 0 ≡ 48 → trimmed (take n ds) ≡ trimmed ds → trimmed (take (n - 1) ds) ≡ trimmed ds
trim_on ds n some le is e = sym (trim_zero (take (n - 1) ds)) ∙ ap (λ (b : ℕ). trimmed (take (n - 1) ds ++ b ∷ [])) (sym is) ∙ ap trimmed (sym (last_of ds n some le)) ∙ e

pub trim_done : (ds : List ℕ) (n : ℕ) → 0 < n → n ≤ length ds → get_or ds (n - 1) 0 ≢ 48 → trimmed (take n ds) ≡ trimmed ds → take n ds ≡ trimmed ds
trim_done ds n some le ne e =
    let other : (get_or ds (n - 1) 0 == 48) ≡ false = grind (arith, nat_tests) in
    last_of ds n some le ∙ sym (trim_other (take (n - 1) ds) (get_or ds (n - 1) 0) other) ∙ ap trimmed (sym (last_of ds n some le)) ∙ e

pub trim_none : (ds : List ℕ) (n : ℕ) → n ≡ 0 → trimmed (take n ds) ≡ trimmed ds → take n ds ≡ trimmed ds
trim_none ds n is e = ap (λ k. take k ds) is ∙ ap (λ k. trimmed (take k ds)) (sym is) ∙ e

-- ---- powers of ten

pub pow_some : (n : ℕ) → 0 < 10 ^ n
pow_some zero = omega arith
pow_some (suc n) = omega (arith, pow_some n)

power_on : (p n : ℕ) → capped (capped (p * 10) * 10 ^ n) ≡ capped (p * 10 ^ suc n)
power_on p n = by (nat_le (2 ^ 63) (p * 10)) refl
  where
    by_parts : (t : ℕ) → p * 10 * t ≡ p * (t * 10)
    by_parts t = omega arith

    step : p * 10 * 10 ^ n ≡ p * 10 ^ suc n
    step = by_parts (10 ^ n) ∙ ap (λ (k : ℕ). p * k) (sym (pow-suc 10 n))

    by : (b : Bool) → nat_le (2 ^ 63) (p * 10) ≡ b → capped (capped (p * 10) * 10 ^ n) ≡ capped (p * 10 ^ suc n)
    by true e =
        let high : 2 ^ 63 ≤ p * 10 = grind (arith, nat_tests) in
        let same : capped (p * 10) ≡ 2 ^ 63 = omega (arith, high) in
        let first : 2 ^ 63 ≤ 2 ^ 63 * 10 ^ n = le-mul_of_pos_right (2 ^ 63) (pow_some n) in
        let second : p * 10 ≤ p * 10 * 10 ^ n = le-mul_of_pos_right (p * 10) (pow_some n) in
        ap (λ (k : ℕ). capped (k * 10 ^ n)) same ∙ top (2 ^ 63 * 10 ^ n) first ∙ sym (top (p * 10 ^ suc n) (omega (arith, high, second, step)))
      where
        top : (k : ℕ) → 2 ^ 63 ≤ k → capped k ≡ 2 ^ 63
        top k le = omega (arith, le)
    by false e =
        let same : capped (p * 10) ≡ p * 10 = grind (arith, nat_tests) in
        ap (λ (k : ℕ). capped (k * 10 ^ n)) same ∙ ap capped step

pub power_step : (p w : ℕ) (ds : List ℕ) (i : ℕ) → i < length ds → w ≡ capped (p * 10) → capped (w * 10 ^ length (drop (i + 1) ds)) ≡ capped (p * 10 ^ length (drop i ds))
power_step p w ds i lt e =
    ap (λ (k : ℕ). capped (k * 10 ^ length (drop (i + 1) ds))) e
    ∙ power_on p (length (drop (i + 1) ds))
    ∙ ap (λ (xs : List ℕ). capped (p * 10 ^ length xs)) (sym (drop_first ds i lt))

-- ---- digits behind digits

from-append : (n : ℕ) (xs ys : List ℕ) → number_from n (xs ++ ys) ≡ number_from (number_from n xs) ys
from-append n [] ys = refl
from-append n (x ∷ xs) ys = from-append (n * 10 + (x - 48)) xs ys

pub digits_behind : (xs ys : List ℕ) → capped (number_from (capped (number_of xs)) ys) ≡ capped (number_of (xs ++ ys))
digits_behind xs ys = capped_same (capped (number_of xs)) (number_of xs) ys (twice (number_of xs)) ∙ ap capped (sym (from-append 0 xs ys))
  where
    twice : (n : ℕ) → capped (capped n) ≡ capped n
    twice n = omega arith
