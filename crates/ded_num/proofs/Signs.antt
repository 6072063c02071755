-- Laws of whole numbers, their signs and their magnitudes that std does not have.
use Rattle.std.proofs.Common.{◌≡◌, arith, ◌*◌, ◌∙◌, ◌<◌, ℕ, sym, ap, true, to_z, of_z, ◌-◌, false}
use Rattle.std.specs.Prelude.{ℤ, unsigned_abs, pos, ◌*ℤ◌, ◌<ℤ◌, int_lt, negsuc, ◌≤ℤ◌, ◌-ℤ◌, ◌+ℤ◌}
use lib.IntN.{neg_ℤ, one}
use Rattle.std.proofs.lemmas.Int.{ints, unsigned_abs-mul, to_z-of_z, fits_signed_from_abs}
use Rattle.std.proofs.Math.IntN.{*ℤ-one, *ℤ_comm, zero-*ℤ}
use Rattle.std.specs.Int.{w128}
use Rattle.ded_num.proofs.Ring.{parts, ring, diff_same, diff-pos, ring_pos}
use Rattle.ded_num.specs.Length.{IsShort}

pub unsigned_abs-neg : (a : ℤ) → unsigned_abs (neg_ℤ a) ≡ unsigned_abs a
unsigned_abs-neg a = omega (arith, ints)

pub one_times : (z : ℤ) → pos 1 *ℤ z ≡ z
unfolding one
one_times z = *ℤ_comm (pos 1) z ∙ *ℤ-one z

pub abs_above : (z : ℤ) → pos 0 <ℤ z → pos (unsigned_abs z) ≡ z
abs_above z h = omega (arith, ints)

pub once : (z : ℤ) → z *ℤ pos 1 ≡ z
once z = omega (arith, ints)

-- the negative of a first factor
pub neg_times_first : (a b : ℤ) → neg_ℤ a *ℤ b ≡ neg_ℤ (a *ℤ b)
neg_times_first a b = rw (parts a, parts b) (simp ring (diff_same _ _ _ _ (omega arith)))

pub above_pos : (n : ℕ) → 0 < n → pos 0 <ℤ pos n
above_pos n h = omega (arith, ints)

pub same_size : (d x y : ℤ) → unsigned_abs d ≡ 1 → d *ℤ x ≡ y → unsigned_abs x ≡ unsigned_abs y
same_size d x y e f = once (unsigned_abs x) ∙ ap (λ n. n * unsigned_abs x) (sym e) ∙ sym (unsigned_abs-mul d x) ∙ ap unsigned_abs f
  where
    once : (n : ℕ) → n ≡ 1 * n
    once n = omega arith

pub times_pos_twice : (n : ℤ) (b d : ℕ) → (n *ℤ pos b) *ℤ pos d ≡ n *ℤ pos (b * d)
times_pos_twice n b d = rw (parts n, diff-pos b, diff-pos d, diff-pos (b * d)) (simp ring (diff_same _ _ _ _ (omega arith)))

pub abs_positive : (z : ℤ) → pos 0 <ℤ z → 0 < unsigned_abs z
abs_positive z h = omega (arith, ints)

-- what is above 0 passes the test
pub above_test : (a : ℤ) → pos 0 <ℤ a → int_lt (pos 0) a ≡ true
above_test a h = grind (arith, ints)

-- a short number as the code has it
pub short_in_code : (z : ℤ) → IsShort z → to_z w128 (of_z w128 z) ≡ z
short_in_code z h = to_z-of_z w128 z (fits_signed_from_abs w128 z h)

pub is_positive : (a : ℤ) → int_lt (pos 0) a ≡ true → pos 0 <ℤ a
is_positive a h = grind (arith, ints)

pub product_above : (t e : ℤ) → pos 0 <ℤ t → pos 0 ≤ℤ e → pos 0 ≤ℤ (t *ℤ e)
product_above (pos n) (pos m) p h = omega (arith, ints)
product_above (pos n) (negsuc m) p h = absurd (omega (arith, ints))
product_above (negsuc n) e p h = absurd (omega (arith, ints))

pub no_gap : (x y : ℤ) → x ≡ y → x -ℤ y ≡ pos 0
no_gap x y e = omega (arith, ints)

pub from_no_gap : (a b : ℤ) → a -ℤ b ≡ pos 0 → a ≡ b
from_no_gap a b h = omega (arith, ints)

pub times_swap : (a b : ℤ) → a *ℤ b ≡ b *ℤ a
times_swap a b = rw (parts a, parts b) (simp ring_pos (diff_same _ _ _ _ (omega arith)))

pub times_regroup : (a b c : ℤ) → a *ℤ (b *ℤ c) ≡ (a *ℤ b) *ℤ c
times_regroup a b c = rw (parts a, parts b, parts c) (simp ring (diff_same _ _ _ _ (omega arith)))

pub more_law : (c d m r : ℤ) → (c +ℤ d) *ℤ m +ℤ r ≡ c *ℤ m +ℤ (d *ℤ m +ℤ r)
more_law c d m r = rw (parts c, parts d, parts m, parts r) (simp ring (diff_same _ _ _ _ (omega arith)))

pub none_law : (c q : ℤ) → q ≡ c *ℤ pos 0 +ℤ q
none_law c q = rw (parts c, parts q) (simp ring_pos (diff_same _ _ _ _ (omega arith)))

-- 0 times a number is 0
pub zero_times : (m x : ℤ) → m ≡ pos 0 → m *ℤ x ≡ pos 0
zero_times m x h = ap (λ z. z *ℤ x) h ∙ zero-*ℤ x

pub abs_below : (z : ℤ) → z <ℤ pos 0 → pos (unsigned_abs z) ≡ neg_ℤ z
abs_below z h = omega (arith, ints)

pub back_back : (d u : ℤ) → d *ℤ neg_ℤ u ≡ neg_ℤ d *ℤ u
back_back d u = rw (parts d, parts u) (simp ring (diff_same _ _ _ _ (omega arith)))

pub nothing : (x y : ℤ) → pos 0 ≡ pos 0 *ℤ x +ℤ pos 0 *ℤ y
nothing x y = rw (parts x, parts y) (simp ring_pos (diff_same _ _ _ _ (omega arith)))

pub times_one_back : (x : ℤ) → x ≡ x *ℤ pos 1
times_one_back x = omega (arith, ints)

pub twice_turned : (a : ℤ) → neg_ℤ (neg_ℤ a) ≡ a
twice_turned a = omega (arith, ints)

pub not_above : (z : ℤ) → int_lt (pos 0) z ≡ false → z ≤ℤ pos 0
not_above z h = grind (arith, ints)

-- a sum with one more, in another order
pub plus_swap : (x y z : ℤ) → (x +ℤ y) +ℤ z ≡ y +ℤ (x +ℤ z)
plus_swap x y z = omega (arith, ints)
