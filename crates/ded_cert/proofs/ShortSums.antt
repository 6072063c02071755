-- Sums of multiples of rows with numbers of at most 63 digits, by numbers of which the magnitudes sum to less than 2^63, are short.
--
-- Each product and each sum on the way has a magnitude below 2^63 times 2^63.
use Rattle.std.proofs.Common.{◌≡◌, ℕ, ◌+◌, ◌*◌, ◌^◌, ◌<◌, ◌≤◌, false, List, [], ◌∷◌, ◌++◌, inl, inr, arith, refl, sym, ◌∙◌, subst, true≢false}
use Rattle.std.specs.Prelude.{ℤ, pos, ◌+ℤ◌, ◌*ℤ◌, unsigned_abs}
use Rattle.std.specs.List.{AllByRecursion}
use Rattle.ded_num.specs.Length.{IsShort}
use Rattle.std.proofs.lemmas.Bool.{or_from}
use Rattle.std.proofs.lemmas.Int.{ints, unsigned_abs-mul}
use Rattle.std.proofs.lemmas.Nat.{mul-le}
use Rattle.ded_model.specs.declared.slot.Slot.{Slot}
use Rattle.ded_model.specs.declared.certificate.Proof.{Proof}
use Rattle.ded_model.specs.declared.certificate.Proof.TheVariants.{Text, Multipliers}
use Rattle.ded_model.specs.Constraint.{LinearConstraint}
use Rattle.ded_model.specs.Coefs.{coef_at}
use Rattle.ded_model.specs.Normal.{IsNormalTuple}
use Rattle.ded_model.specs.Row.{Atom}
use Rattle.ded_model.specs.Width.{tuple_length}
use Rattle.ded_model.proofs.LineLengths.{not_long}
use Rattle.ded_theory.specs.Both.{firsts}
use Rattle.ded_weighing.specs.Weighing.{term_is_long, column_is_long, IsLongSum}
use Rattle.ded_cert.specs.Certified.{magnitudes, HasSmallSum}
use Rattle.ded_cert.specs.Checks.{IsTooLong}
use Rattle.ded_cert.proofs.Lengths.{NumbersWithin, rows_within, joined_length}
use Rattle.ded_cert.proofs.Parts.{rows_with_coefs}

-- each number is below the sum of the magnitudes
each_below : (k l : ℕ) (ms : List ℤ) → k ≤ l → magnitudes ms < k → AllByRecursion (λ m. unsigned_abs m < l) ms
each_below k l [] h g = tt
each_below k l (m ∷ ms) h g = (omega (arith, h, g), each_below k l ms h (omega (arith, g)))

pub each_short : (ms : List ℤ) → magnitudes ms < 2 ^ 63 → AllByRecursion IsShort ms
each_short ms h = each_below (2 ^ 63) (2 ^ 127) ms (omega arith) h

-- a product with a number below k
product_below : (m z : ℤ) (k : ℕ) → unsigned_abs z < k → unsigned_abs (m *ℤ z) ≤ unsigned_abs m * k
product_below m z k h = subst (λ n. n ≤ unsigned_abs m * k) (sym (unsigned_abs-mul m z)) (mul-le (unsigned_abs m) (unsigned_abs z) (unsigned_abs m) k (omega arith) (omega (arith, h)))

next_sum : (p s : ℤ) (a m k l : ℕ) → unsigned_abs p ≤ a * k → unsigned_abs s + (a + m) * k < l → unsigned_abs (p +ℤ s) + m * k < l
next_sum p s a m k l h g = let t = sum_size p s in omega (arith, h, g, t)
  where
    sum_size : (p s : ℤ) → unsigned_abs (p +ℤ s) ≤ unsigned_abs p + unsigned_abs s
    sum_size p s = omega (arith, ints)

product_fits : (p s : ℤ) (a m k l : ℕ) → unsigned_abs p ≤ a * k → unsigned_abs s + (a + m) * k < l → unsigned_abs p < l
product_fits p s a m k l h g = omega (arith, h, g)

first_part : (x y l : ℕ) → x + y < l → x < l
first_part x y l h = omega (arith, h)

term_short : (m z s : ℤ) (rest k : ℕ) → unsigned_abs z < k → unsigned_abs s + (unsigned_abs m + rest) * k < 2 ^ 127 → term_is_long m z s ≡ false
term_short m z s rest k h g =
    let p = product_below m z k h in
    or_from _ _ (not_long (m *ℤ z) (product_fits (m *ℤ z) s (unsigned_abs m) rest k (2 ^ 127) p g))
    (or_from _ _ (not_long s (first_part (unsigned_abs s) ((unsigned_abs m + rest) * k) (2 ^ 127) g))
    (not_long (m *ℤ z +ℤ s) (first_part (unsigned_abs (m *ℤ z +ℤ s)) (rest * k) (2 ^ 127) (next_sum (m *ℤ z) s (unsigned_abs m) rest k (2 ^ 127) p g))))

-- a column of numbers below k
column_short : (number : LinearConstraint → ℤ) (k : ℕ) (s : ℤ) (ms : List ℤ) (rs : List LinearConstraint) → AllByRecursion (λ r. unsigned_abs (number r) < k) rs
    → unsigned_abs s + magnitudes ms * k < 2 ^ 127 → column_is_long number s ms rs ≡ false
column_short number k s [] rs h g = refl
column_short number k s (m ∷ ms) [] h g = refl
column_short number k s (m ∷ ms) (r ∷ rs) h g =
    or_from _ _ (term_short m (number r) s (magnitudes ms) k h.0 g)
    (column_short number k (m *ℤ number r +ℤ s) ms rs h.1 (next_sum (m *ℤ number r) s (unsigned_abs m) (magnitudes ms) k (2 ^ 127) (product_below m (number r) k h.0) g))

below_all : (m k l : ℕ) → m < k → k * k < l → 0 + m * k < l
below_all m k l h g = let p = mul-le m k k k (omega (arith, h)) (omega arith) in omega (arith, g, p)

square : 2 ^ 63 * 2 ^ 63 < 2 ^ 127
square = omega arith

constants_below : (rs : List LinearConstraint) → NumbersWithin 63 rs → AllByRecursion (λ r. unsigned_abs r.constant < 2 ^ 63) rs
constants_below [] h = tt
constants_below (r ∷ rs) h = (h.0.1, constants_below rs h.1)

coefs_below : (s : Slot) (rs : List LinearConstraint) → NumbersWithin 63 rs → AllByRecursion (λ r. unsigned_abs (coef_at r.coefs s) < 2 ^ 63) rs
coefs_below s [] h = tt
coefs_below s (r ∷ rs) h = (h.0.0 s, coefs_below s rs h.1)

sums_short : (ms : List ℤ) (rs : List LinearConstraint) → NumbersWithin 63 rs → magnitudes ms < 2 ^ 63 → IsLongSum ms rs → ⊥
sums_short ms rs h g (inl e) = true≢false (sym e ∙ column_short (λ r. r.constant) (2 ^ 63) (pos 0) ms rs (constants_below rs h) (below_all (magnitudes ms) (2 ^ 63) (2 ^ 127) g square))
sums_short ms rs h g (inr w) = true≢false (sym w.1 ∙ column_short (λ r. coef_at r.coefs w.0) (2 ^ 63) (pos 0) ms rs (coefs_below w.0 rs h) (below_all (magnitudes ms) (2 ^ 63) (2 ^ 127) g square))

-- so a check of such a certificate is never refused
pub short_checks : (t u : List Atom) (proof : Proof) → IsNormalTuple t → IsNormalTuple u → tuple_length t ≤ 63 → tuple_length u ≤ 63 → HasSmallSum proof → IsTooLong t u proof → ⊥
short_checks t u Text n m h g s l = l
short_checks t u (Multipliers ms) n m h g s l = sums_short ms (firsts (t ++ u)) (rows_within 63 (t ++ u) (rows_with_coefs t u n m) (joined_length 63 t u h g)) s l.sum
