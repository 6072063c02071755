-- Orders of whole numbers: times a factor, and whole quotients.
use Rattle.std.proofs.Common.{◌≡◌, ℕ, ◌+◌, ◌*◌, ◌<◌, ◌≤◌, Bool, true, false, arith, refl, subst}
use Rattle.std.specs.Prelude.{ℤ, pos, negsuc, ◌+ℤ◌, ◌-ℤ◌, ◌*ℤ◌, ◌≤ℤ◌, ◌<ℤ◌, int_lt, int_le, neg_ℤ, unsigned_abs}
use Rattle.std.specs.Int.{int_div_euclid, int_rem_euclid}
use Rattle.std.proofs.lemmas.Int.{ints}
use Rattle.std.proofs.lemmas.Nat.{mod_below}
use Rattle.std.proofs.Math.Nat.{mul-le-mul_left}
use borrow.Author.Differences.{up, down, le_out}
use Rattle.ded_num.proofs.Ring.{parts, diff_same, diff_le, ring, ring_pos}
use Rattle.ded_num.proofs.Fractions.{whole_and_rest_is}
use Rattle.ded_model.specs.declared.row.RowOp.TheVariants.{AtMost}
use Rattle.ded_model.proofs.Core.{Meets, meets_unscale}

-- ---- tests

-- where a number is below another one, the test for that is true
pub lt_true : (a b : ℤ) → a <ℤ b → int_lt a b ≡ true
lt_true a b h = grind (arith, ints)

-- where a number is at most another one, the test for that is true
pub le_true : (a b : ℤ) → a ≤ℤ b → int_le a b ≡ true
le_true a b h = grind (arith, ints)

-- where the second number is at most the first one, the test whether the first is below the second is false
pub lt_false : (a b : ℤ) → b ≤ℤ a → int_lt a b ≡ false
lt_false a b h = grind (arith, ints)

-- where the test whether a number is below another one is true, it is
pub of_lt_true : (a b : ℤ) → int_lt a b ≡ true → a <ℤ b
of_lt_true a b h = grind (arith, ints)

-- where the test whether a number is at most another one is true, it is
pub of_le_true : (a b : ℤ) → int_le a b ≡ true → a ≤ℤ b
of_le_true a b h = grind (arith, ints)

-- where the test whether the first number is below the second one is false, the second is at most the first
pub of_lt_false : (a b : ℤ) → int_lt a b ≡ false → b ≤ℤ a
of_lt_false a b h = grind (arith, ints)

-- each whole number is at most itself
pub le_self : (z : ℤ) → z ≤ℤ z
le_self z = omega (arith, ints)

-- a natural number is at least 0 as a whole number
pub not_negative : (n : ℕ) → pos 0 ≤ℤ pos n
not_negative n = omega (arith, ints)

-- ---- factors

-- a factor of at least 0 keeps the order of two numbers
pub times_up : (k x y : ℤ) → pos 0 ≤ℤ k → x ≤ℤ y → (k *ℤ x) ≤ℤ (k *ℤ y)
times_up (negsuc n) x y h l = absurd (omega (arith, ints))
times_up (pos n) x y h l = rw (parts x, parts y) (simp ring_pos (diff_le _ _ _ _ (grow n (up x) (down x) (up y) (down y) (le_out x y l))))
  where
    grow : (n a b c d : ℕ) → a + d ≤ c + b → n * a + 0 * b + (n * d + 0 * c) ≤ n * c + 0 * d + (n * b + 0 * a)
    grow n a b c d h = omega (arith, mul-le-mul_left n h)

-- a multiple by the negative of a factor is the negative of the multiple by the factor
pub times_neg : (k x : ℤ) → neg_ℤ k *ℤ x ≡ neg_ℤ (k *ℤ x)
times_neg k x = rw (parts k, parts x) (simp ring (diff_same _ _ _ _ (omega arith)))

-- where multiples by a factor above 0 are in order, the numbers are
pub le_unscale : (d x y : ℤ) → pos 0 <ℤ d → (d *ℤ x) ≤ℤ (d *ℤ y) → x ≤ℤ y
le_unscale d x y p h = at_most x y (meets_unscale AtMost d (x -ℤ y) p (subst (Meets AtMost) (law d x y) (difference (d *ℤ x) (d *ℤ y) h)))
  where
    law : (d x y : ℤ) → d *ℤ x -ℤ d *ℤ y ≡ d *ℤ (x -ℤ y)
    law d x y = rw (parts d, parts x, parts y) (simp ring (diff_same _ _ _ _ (omega arith)))

    difference : (a b : ℤ) → a ≤ℤ b → Meets AtMost (a -ℤ b)
    difference a b h = omega (arith, ints)

    at_most : (x y : ℤ) → Meets AtMost (x -ℤ y) → x ≤ℤ y
    at_most x y h = omega (arith, ints)

apart : (x y : ℤ) → x <ℤ y → y ≤ℤ x → ⊥
apart x y h k = omega (arith, ints)

weak : (k : ℤ) → pos 0 <ℤ k → pos 0 ≤ℤ k
weak k h = omega (arith, ints)

-- a factor above 0 keeps the strict order of two numbers
pub times_lt : (k x y : ℤ) → pos 0 <ℤ k → x <ℤ y → (k *ℤ x) <ℤ (k *ℤ y)
times_lt k x y p h = by (int_lt (k *ℤ x) (k *ℤ y)) refl
  where
    by : (b : Bool) → int_lt (k *ℤ x) (k *ℤ y) ≡ b → (k *ℤ x) <ℤ (k *ℤ y)
    by true e = of_lt_true (k *ℤ x) (k *ℤ y) e
    by false e = absurd (apart x y h (le_unscale k y x p (of_lt_false (k *ℤ x) (k *ℤ y) e)))

-- where multiples by a factor above 0 are in strict order, the numbers are
pub lt_unscale : (k x y : ℤ) → pos 0 <ℤ k → (k *ℤ x) <ℤ (k *ℤ y) → x <ℤ y
lt_unscale k x y p h = by (int_lt x y) refl
  where
    by : (b : Bool) → int_lt x y ≡ b → x <ℤ y
    by true e = of_lt_true x y e
    by false e = absurd (apart (k *ℤ x) (k *ℤ y) h (times_up k y x (weak k p) (of_lt_false x y e)))

-- a product doesn't depend on the order of its factors
pub commute : (a b : ℤ) → a *ℤ b ≡ b *ℤ a
commute a b = rw (parts a, parts b) (simp ring (diff_same _ _ _ _ (omega arith)))

-- ---- whole quotients

-- the whole quotient by a divisor above 0, times the divisor, is at most the number that was divided
pub quotient_at_most : (n d : ℤ) → pos 0 <ℤ d → (int_div_euclid n d *ℤ d) ≤ℤ n
quotient_at_most n d h = less (int_div_euclid n d *ℤ d) n (unsigned_abs (int_rem_euclid n d)) (whole_and_rest_is n d h)
  where
    less : (q n : ℤ) (r : ℕ) → n ≡ q +ℤ pos r → q ≤ℤ n
    less q n r e = omega (arith, ints)

rest_below : (n : ℤ) (f : ℕ) → 0 < f → unsigned_abs (int_rem_euclid n (pos f)) < f
rest_below (pos a) f h = mod_below a f h
rest_below (negsuc a) f h = omega (arith, mod_below a f h)

-- the number after the whole quotient, times the divisor, is more than the number that was divided
pub quotient_next : (n : ℤ) (f : ℕ) → 0 < f → n <ℤ (pos f *ℤ (int_div_euclid n (pos f) +ℤ pos 1))
quotient_next n f h = more (int_div_euclid n (pos f) *ℤ pos f) n (pos f *ℤ (int_div_euclid n (pos f) +ℤ pos 1)) (unsigned_abs (int_rem_euclid n (pos f))) f (whole_and_rest_is n (pos f) (above f h)) (rest_below n f h) (law (int_div_euclid n (pos f)) (pos f))
  where
    above : (f : ℕ) → 0 < f → pos 0 <ℤ pos f
    above f h = omega (arith, ints)

    law : (q f : ℤ) → f *ℤ (q +ℤ pos 1) ≡ q *ℤ f +ℤ f
    law q f = rw (parts q, parts f) (simp ring_pos (diff_same _ _ _ _ (omega arith)))

    more : (q n m : ℤ) (r f : ℕ) → n ≡ q +ℤ pos r → r < f → m ≡ q +ℤ pos f → n <ℤ m
    more q n m r f e h g = omega (arith, ints)

-- the divisor, a natural number above 0, times the whole quotient is at most the number that was divided
pub quotient_up_to : (n : ℤ) (f : ℕ) → 0 < f → (pos f *ℤ int_div_euclid n (pos f)) ≤ℤ n
quotient_up_to n f h = turn (pos f *ℤ int_div_euclid n (pos f)) (int_div_euclid n (pos f) *ℤ pos f) n (commute (pos f) (int_div_euclid n (pos f))) (quotient_at_most n (pos f) (above f h))
  where
    above : (f : ℕ) → 0 < f → pos 0 <ℤ pos f
    above f h = omega (arith, ints)

    turn : (a b n : ℤ) → a ≡ b → b ≤ℤ n → a ≤ℤ n
    turn a b n e h = omega (arith, ints)
