-- Coordinates are near to what they stand for, and are read as they were written.
use Rattle.std.proofs.Common.{◌≡◌, ◌<◌, ◌≤◌, ℕ, suc, ◌+◌, ◌*◌, ◌/◌, ◌%◌, Bool, true, false, List, [], ◌∷◌, ◌++◌, refl, sym, ap, ◌∙◌, subst, arith, append_assoc, leb-true, leb-false}
use Rattle.std.specs.Prelude.{◌==◌, nat_le, ℤ, pos, negsuc, ◌*ℤ◌, ◌-ℤ◌, ◌<ℤ◌, neg_ℤ, unsigned_abs, if◌then◌else◌}
use Rattle.std.proofs.Math.Nat.{div-add-mod, mod-lt}
use Rattle.std.proofs.lemmas.Bool.Decides.{nat_tests}
use Rattle.std.proofs.lemmas.Int.{ints}
use Rattle.ded_num.proofs.Signs.{neg_times_first}
use Rattle.ded_model.specs.Bound.{Fraction, IsFraction}
use Rattle.ded_print.proofs.Numerals.{by_digits}
use Rattle.ded_print.specs.Numbers.{number_text}
use Rattle.ded_print.proofs.Signs.{plus}
use Rattle.ded_svg.specs.Coordinates.{nearest, nearest_whole, hundredths_of, IsNear, coordinate_text, magnitude_text, digits_read, hundredths_read}

-- ---- near

-- twice so many times d is within d of twice m
pub record Rounds (m d q : ℕ) : Type 0 where
  pub above : 2 * (q * d) ≤ 2 * m + d
  pub below : 2 * m ≤ 2 * (q * d) + d

pub nearest_rounds : (m d : ℕ) → 0 < d → Rounds m d (nearest m d)
nearest_rounds m d some = by (nat_le d (2 * (m % d))) refl
  where
    by : (b : Bool) → nat_le d (2 * (m % d)) ≡ b → Rounds m d (if b then (m / d + 1) else (m / d))
    by true e = let all = div-add-mod m d in let less = mod-lt m some in let up = leb-true d (2 * (m % d)) e in record { above = omega (arith, all, less, up); below = omega (arith, all, less, up) }
    by false e = let all = div-add-mod m d in let less = mod-lt m some in let down = leb-false d (2 * (m % d)) e in record { above = omega (arith, all, less, down); below = omega (arith, all, less, down) }

pub apart : (a b k : ℕ) → 2 * a ≤ 2 * b + k → 2 * b ≤ 2 * a + k → 2 * unsigned_abs (pos a -ℤ pos b) ≤ k
apart a b k h i = omega (arith, ints, h, i)

apart_below : (a b k : ℕ) → 2 * a ≤ 2 * b + k → 2 * b ≤ 2 * a + k → 2 * unsigned_abs (neg_ℤ (pos a) -ℤ neg_ℤ (pos b)) ≤ k
apart_below a b k h i = omega (arith, ints, h, i)

near_whole : (z den : ℤ) → pos 0 <ℤ den → 2 * unsigned_abs (nearest_whole z den *ℤ den -ℤ z) ≤ unsigned_abs den
near_whole (pos m) (pos d) some =
    let h = nearest_rounds m d (omega (arith, ints, some)) in
    let q = nearest m d in
    subst (λ (b : Bool). 2 * unsigned_abs ((if b then neg_ℤ (pos q) else pos q) *ℤ pos d -ℤ pos m) ≤ d) (sym (plus m)) (apart (q * d) m d h.above h.below)
near_whole (negsuc m) (pos d) some =
    let h = nearest_rounds (suc m) d (omega (arith, ints, some)) in
    let q = nearest (suc m) d in
    subst (λ (x : ℤ). 2 * unsigned_abs (x -ℤ negsuc m) ≤ d) (sym (neg_times_first (pos q) (pos d))) (apart_below (q * d) (suc m) d h.above h.below)
near_whole (pos m) (negsuc d) some = absurd (omega (arith, ints, some))
near_whole (negsuc m) (negsuc d) some = absurd (omega (arith, ints, some))

pub near : (f : Fraction) → IsFraction f → IsNear f (hundredths_of f)
near f h = near_whole (f.num *ℤ pos 100) f.den h.positive

-- ---- read

digit_read : (n d : ℕ) (bs : List ℕ) → d < 10 → digits_read n ((48 + d) ∷ bs) ≡ digits_read (10 * n + d) bs
digit_read n d bs less =
    let other : (48 + d == 46) ≡ false = grind (arith, nat_tests) in
    rw other (ap (λ (k : ℕ). digits_read k bs) (omega arith))

number_read : (n : ℕ) (rest : List ℕ) → digits_read 0 (number_text n ++ rest) ≡ digits_read n rest
number_read = by_digits (λ n ds. (rest : List ℕ) → digits_read 0 (ds ++ rest) ≡ digits_read n rest)
    (λ n less rest. digit_read 0 n rest less ∙ ap (λ (k : ℕ). digits_read k rest) (omega arith))
    (λ n ds more front rest.
    ap (digits_read 0) (append_assoc ds ((48 + n % 10) ∷ []) rest) ∙ front ((48 + n % 10) ∷ rest) ∙ digit_read (n / 10) (n % 10) rest (omega arith) ∙ ap (λ (k : ℕ). digits_read k rest) (omega arith))

magnitude_read : (n : ℕ) → digits_read 0 (magnitude_text n) ≡ n
magnitude_read n =
    let one = (48 + n % 10) ∷ [] in
    number_read (n / 100) (46 ∷ (48 + (n / 10) % 10) ∷ one) ∙ digit_read (n / 100) ((n / 10) % 10) one (omega arith) ∙ digit_read (10 * (n / 100) + (n / 10) % 10) (n % 10) [] (omega arith) ∙ omega arith

-- a number doesn't begin with `-`
number_unsigned : (n : ℕ) (rest : List ℕ) → hundredths_read (number_text n ++ rest) ≡ pos (digits_read 0 (number_text n ++ rest))
number_unsigned = by_digits (λ n ds. (rest : List ℕ) → hundredths_read (ds ++ rest) ≡ pos (digits_read 0 (ds ++ rest)))
    (λ n less rest. let other : (48 + n == 45) ≡ false = grind (arith, nat_tests) in rw other refl)
    (λ n ds more front rest.
    let moved = append_assoc ds ((48 + n % 10) ∷ []) rest in
    ap hundredths_read moved ∙ front ((48 + n % 10) ∷ rest) ∙ ap (λ l. pos (digits_read 0 l)) (sym moved))

pub coordinate_read : (z : ℤ) → hundredths_read (coordinate_text z) ≡ z
coordinate_read (pos n) =
    ap (λ (b : Bool). hundredths_read ((if b then (45 ∷ []) else []) ++ magnitude_text n)) (plus n) ∙ number_unsigned (n / 100) _ ∙ ap pos (magnitude_read n)
coordinate_read (negsuc n) = ap (λ (k : ℕ). neg_ℤ (pos k)) (magnitude_read (suc n))
