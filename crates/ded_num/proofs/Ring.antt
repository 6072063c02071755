-- Identities of whole numbers, left to `omega`: a whole number is a difference of two naturals, and an equation of sums
-- and products of differences is an equation of naturals, which `omega` multiplies out. The idiom, over variables only:
--   law a b c = rw (parts a, parts b, parts c) (simp ring (diff_same _ _ _ _ (omega arith)))
-- with `ring_pos` in place of `ring` where numerals `pos n` stand in the identity.
use Rattle.std.proofs.Common.{◌≡◌, ℕ, ◌+◌, ◌*◌, ◌<◌, ◌≤◌, arith, ap}
use Rattle.std.specs.Prelude.{ℤ, pos, negsuc, ◌+ℤ◌, ◌-ℤ◌, ◌*ℤ◌, ◌≤ℤ◌, ◌<ℤ◌}
use lib.IntN.{neg_ℤ}
use Rattle.std.proofs.lemmas.Int.{ints}
use borrow.Author.Differences.{up, down, same_in, product_is}

-- m - n as a whole number; opaque, so that `simp` leaves it as it is
pub diff : ℕ → ℕ → ℤ
diff m n = pos m -ℤ pos n

-- each whole number is the difference of its part above 0 and its part below
pub parts : (a : ℤ) → a ≡ diff (up a) (down a)
unfolding diff
parts (pos n) = omega (arith, ints)
parts (negsuc n) = omega (arith, ints)

-- differences are equal where the sums across are
pub diff_same : (m n p q : ℕ) → m + q ≡ p + n → diff m n ≡ diff p q
unfolding diff
diff_same m n p q e = omega (arith, ints)

-- the sum, difference, negative and product of differences is a difference
pub diff-add : (a b c d : ℕ) → diff a b +ℤ diff c d ≡ diff (a + c) (b + d)
unfolding diff
diff-add a b c d = omega (arith, ints)

pub diff-sub : (a b c d : ℕ) → diff a b -ℤ diff c d ≡ diff (a + d) (b + c)
unfolding diff
diff-sub a b c d = omega (arith, ints)

pub diff-neg : (a b : ℕ) → neg_ℤ (diff a b) ≡ diff b a
unfolding diff
diff-neg a b = omega (arith, ints)

-- a numeral is a difference too
pub diff-pos : (a : ℕ) → pos a ≡ diff a 0
unfolding diff
diff-pos a = omega (arith, ints)

-- the parts of a difference
up-diff : (a b : ℕ) → up (diff a b) + b ≡ down (diff a b) + a
unfolding diff
up-diff a b = omega (arith, ints)

-- equals times a number
by : {m n : ℕ} (k : ℕ) → m ≡ n → m * k ≡ n * k
by k e = ap (λ x. x * k) e

pub diff-mul : (a b c d : ℕ) → diff a b *ℤ diff c d ≡ diff (a * c + b * d) (a * d + b * c)
diff-mul a b c d =
    let x = diff a b in
    let y = diff c d in
    let xs = up-diff a b in
    let ys = up-diff c d in
    let ups = up-diff (a * c + b * d) (a * d + b * c) in
    let of = product_is x y in
    same_in _ _ (omega (arith, ups, of, by (up y) xs, by (down y) xs, by a ys, by b ys))

-- the orders of differences, both ways
pub diff_le : (m n p q : ℕ) → m + q ≤ p + n → diff m n ≤ℤ diff p q
unfolding diff
diff_le m n p q h = omega (arith, ints)

pub diff_lt : (m n p q : ℕ) → m + q < p + n → diff m n <ℤ diff p q
unfolding diff
diff_lt m n p q h = omega (arith, ints)

pub of_diff_le : (m n p q : ℕ) → diff m n ≤ℤ diff p q → m + q ≤ p + n
unfolding diff
of_diff_le m n p q h = omega (arith, ints)

pub of_diff_lt : (m n p q : ℕ) → diff m n <ℤ diff p q → m + q < p + n
unfolding diff
of_diff_lt m n p q h = omega (arith, ints)

pub of_diff_same : (m n p q : ℕ) → diff m n ≡ diff p q → m + q ≡ p + n
unfolding diff
of_diff_same m n p q h = omega (arith, ints)

-- moves sums and products of differences into one difference
pub ruleset ring = (diff-add, diff-sub, diff-neg, diff-mul)

-- the same where numerals `pos n` stand in the identity
pub ruleset ring_pos = (diff-pos, diff-add, diff-sub, diff-neg, diff-mul)

-- the laws of the ring that std leaves out: products associate, and distribute over sums
pub mul_assoc_ℤ : (a b c : ℤ) → (a *ℤ b) *ℤ c ≡ a *ℤ (b *ℤ c)
mul_assoc_ℤ a b c = rw (parts a, parts b, parts c) (simp ring (diff_same _ _ _ _ (omega arith)))

pub add-mul_ℤ : (a b c : ℤ) → (a +ℤ b) *ℤ c ≡ a *ℤ c +ℤ b *ℤ c
add-mul_ℤ a b c = rw (parts a, parts b, parts c) (simp ring (diff_same _ _ _ _ (omega arith)))

pub mul-add_ℤ : (a b c : ℤ) → a *ℤ (b +ℤ c) ≡ a *ℤ b +ℤ a *ℤ c
mul-add_ℤ a b c = rw (parts a, parts b, parts c) (simp ring (diff_same _ _ _ _ (omega arith)))

-- a sum of two products, times a number
pub four_law : (a b c d e : ℤ) → (a *ℤ b +ℤ c *ℤ d) *ℤ e ≡ a *ℤ (b *ℤ e) +ℤ c *ℤ (d *ℤ e)
four_law a b c d e = rw (parts a, parts b, parts c, parts d, parts e) (simp ring (diff_same _ _ _ _ (omega arith)))
