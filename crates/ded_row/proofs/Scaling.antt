-- The normal form of a row is that of each multiple of it.
--
-- The greatest common divisor of multiples is that multiple of the greatest common divisor, so the divisor of a multiple of a
-- row is that multiple of the row's divisor, and the quotients are the same. A negative factor turns an equality alone.
use Rattle.std.proofs.Common.{◌≡◌, ◌≢◌, ℕ, zero, suc, ◌+◌, ◌*◌, ◌/◌, ◌<◌, ◌≤◌, ◌%◌, Bool, true, false, not, cond, List, [], ◌∷◌, map, arith, refl, sym, ap, ap₂, ◌∙◌, subst}
use Rattle.std.specs.Prelude.{ℤ, pos, negsuc, ◌-ℤ◌, ◌*ℤ◌, ◌<ℤ◌, int_lt, int_div, unsigned_abs}
use lib.IntN.{neg_ℤ}
use Prim.Native.Nat.{◌∣◌}
use Rattle.std.specs.Int.{IsGcd}
use Rattle.std.proofs.lemmas.Int.{ints, unsigned_abs-mul}
use Rattle.std.proofs.Math.Nat.{dvd-mul_right, mod-add-div, mod-lt, mod-eq_of_lt, add-mul-mod_self_left, mul-lt-mul_of_pos_left}
use Rattle.std.proofs.Math.IntN.{*ℤ-zero}
use Rattle.std.proofs.lemmas.Nat.Gcd.{IsGcd-from_zero, IsGcd-from_mod}
use Rattle.ded_num.specs.Gcd.{gcd_within, nat_gcd, gcd_from, gcd_all}
use Rattle.ded_num.proofs.Gcds.{nat_gcd_is}
use Rattle.ded_num.proofs.Ring.{parts, ring, diff_same}
use Rattle.ded_num.proofs.Signs.{neg_times_first, times_regroup}
use Rattle.ded_model.specs.declared.slot.Slot.{Slot}
use Rattle.ded_model.specs.declared.slot.Sort.TheVariants.{Rat}
use Rattle.ded_model.specs.declared.row.RowOp.{RowOp}
use Rattle.ded_model.specs.declared.row.RowOp.TheVariants.{Zero, AtMost, Below}
use Rattle.ded_model.specs.Constraint.{LinearConstraint}
use Rattle.ded_model.specs.Row.{sign_meets}
use Rattle.ded_model.specs.Normal.{DivideWhole, divisor_for, divisor_of, coefs_over, row_over, constant_row, normal_with, normal_row}
use Rattle.ded_model.proofs.Divisors.{all_whole, divisor-whole, divisor-whole_constant, divisor-nonzero_first}
use Rattle.ded_row.specs.Multiples.{coefs_times, row_times}
use Rattle.ded_model.proofs.Normals.{sign_meets-times, sign_meets-turned}

-- ---- common divisors of multiples

-- the rest of a division of multiples
rest_times : (n a b : ℕ) → 0 < b → (suc n * a) % (suc n * b) ≡ suc n * (a % b)
rest_times n a b h =
    let whole_parts : suc n * (a % b) + suc n * b * (a / b) ≡ suc n * a = law (suc n) (a % b) b (a / b) ∙ ap (λ x. suc n * x) (mod-add-div a b) in
    ap (λ x. x % (suc n * b)) (sym whole_parts)
    ∙ add-mul-mod_self_left (suc n * (a % b)) (suc n * b) (a / b)
    ∙ mod-eq_of_lt (mul-lt-mul_of_pos_left (mod-lt a h) (omega arith))
  where
    law : (k r b q : ℕ) → k * r + k * b * q ≡ k * (r + b * q)
    law k r b q = omega arith

-- Euclid's steps on multiples
IsGcd-times : (n turns a b : ℕ) → b ≤ turns → IsGcd (suc n * a) (suc n * b) (suc n * gcd_within turns a b)
IsGcd-times n zero a b h = IsGcd-from_zero (suc n * a) (suc n * b) (none b h)
  where
    none : (b : ℕ) → b ≤ 0 → suc n * b ≡ 0
    none zero h = omega arith
    none (suc b) h = absurd (omega arith)
IsGcd-times n (suc turns) a zero h = IsGcd-from_zero (suc n * a) (suc n * zero) (omega arith)
IsGcd-times n (suc turns) a (suc b) h =
    let less : a % suc b < suc b = mod-lt a (omega arith) in
    IsGcd-from_mod (suc n * a) (suc n * suc b) _
    (subst (λ r. IsGcd (suc n * suc b) r (suc n * gcd_within turns (suc b) (a % suc b))) (sym (rest_times n a (suc b) (omega arith)))
    (IsGcd-times n turns (suc b) (a % suc b) (omega arith)))

-- the greatest common divisor of multiples
nat_gcd-times : (n a b : ℕ) → nat_gcd (suc n * a) (suc n * b) ≡ suc n * nat_gcd a b
unfolding nat_gcd
nat_gcd-times n a b = sym (nat_gcd_is (suc n * a) (suc n * b) _ (IsGcd-times n b a b (omega arith)))

-- with the magnitude of a multiple
gcd_step : (k z : ℤ) (n g : ℕ) → unsigned_abs k ≡ suc n → nat_gcd (suc n * g) (unsigned_abs (k *ℤ z)) ≡ suc n * nat_gcd g (unsigned_abs z)
gcd_step k z n g e = ap (nat_gcd (suc n * g)) (unsigned_abs-mul k z ∙ ap (λ m. m * unsigned_abs z) e) ∙ nat_gcd-times n g (unsigned_abs z)

-- of the multiples of coefficients
gcd_from-times : (k : ℤ) (n g : ℕ) (cs : List (Slot × ℤ)) → unsigned_abs k ≡ suc n → gcd_from (suc n * g) (map (λ c. c.1) (coefs_times k cs)) ≡ suc n * gcd_from g (map (λ c. c.1) cs)
gcd_from-times k n g [] e = refl
gcd_from-times k n g (c ∷ cs) e =
    ap (λ m. gcd_from m (map (λ d. d.1) (coefs_times k cs))) (gcd_step k c.1 n g e) ∙ gcd_from-times k n (nat_gcd g (unsigned_abs c.1)) cs e

-- of all numbers of a row
pub gcd_all-times : (k m : ℤ) (n : ℕ) (cs : List (Slot × ℤ)) → unsigned_abs k ≡ suc n → gcd_all ((k *ℤ m) ∷ map (λ c. c.1) (coefs_times k cs)) ≡ suc n * gcd_all (m ∷ map (λ c. c.1) cs)
gcd_all-times k m n cs e =
    let none : suc n * 0 ≡ 0 = omega arith in
    ap (λ g. gcd_from (nat_gcd g (unsigned_abs (k *ℤ m))) (map (λ c. c.1) (coefs_times k cs))) (sym none)
    ∙ ap (λ g. gcd_from g (map (λ c. c.1) (coefs_times k cs))) (gcd_step k m n 0 e) ∙ gcd_from-times k n (nat_gcd 0 (unsigned_abs m)) cs e

-- ---- the divisor of a multiple

-- the negative of a multiple is the multiple of the negative
pub inner_law : (k z : ℤ) → neg_ℤ (k *ℤ z) ≡ k *ℤ neg_ℤ z
inner_law k z = rw (parts k, parts z) (simp ring (diff_same _ _ _ _ (omega arith)))

-- two negatives
both_law : (k z : ℤ) → k *ℤ z ≡ neg_ℤ k *ℤ neg_ℤ z
both_law k z = rw (parts k, parts z) (simp ring (diff_same _ _ _ _ (omega arith)))

-- the sign of a negative
lt_neg : (z : ℤ) → z ≢ pos 0 → int_lt (neg_ℤ z) (pos 0) ≡ not (int_lt z (pos 0))
lt_neg (pos zero) n = absurd (n refl)
lt_neg (pos (suc m)) n = grind (arith, ints)
lt_neg (negsuc m) n = grind (arith, ints)

-- the sign of a negative multiple
lt_negative : (n : ℕ) (z : ℤ) → z ≢ pos 0 → int_lt (negsuc n *ℤ z) (pos 0) ≡ not (int_lt z (pos 0))
lt_negative n z h = ap (λ w. int_lt w (pos 0)) (neg_times_first (pos (suc n)) z ∙ inner_law (pos (suc n)) z) ∙ sign_meets-times Below n (neg_ℤ z) ∙ lt_neg z h

-- above 0 where the row is an inequality
abbrev pub IsSignFor : RowOp → ℤ → Type 0
IsSignFor Zero k = Unit {0}
IsSignFor AtMost k = pos 0 <ℤ k
IsSignFor Below k = pos 0 <ℤ k

-- a factor that a row may be multiplied by
pub record IsFactor (op : RowOp) (k : ℤ) : Type 0 where
  pub nonzero : k ≢ pos 0
  pub sign : IsSignFor op k

-- the divisor is multiplied too
divisor_for-times : (op : RowOp) (k first : ℤ) (n g : ℕ) → unsigned_abs k ≡ suc n → IsFactor op k → first ≢ pos 0 → divisor_for op (k *ℤ first) (suc n * g) ≡ k *ℤ divisor_for op first g
divisor_for-times op (pos zero) first n g e f h = absurd (omega arith)
divisor_for-times Zero (pos (suc k)) first n g e f h =
    let same : suc n ≡ suc k = sym e in
    ap (λ m. divisor_for Zero (pos (suc k) *ℤ first) (m * g)) same ∙ ap (λ b. cond b (neg_ℤ (pos (suc k * g))) (pos (suc k * g))) (sign_meets-times Below k first) ∙ go (int_lt first (pos 0))
  where
    go : (b : Bool) → cond b (neg_ℤ (pos (suc k * g))) (pos (suc k * g)) ≡ pos (suc k) *ℤ cond b (neg_ℤ (pos g)) (pos g)
    go true = inner_law (pos (suc k)) (pos g)
    go false = refl
divisor_for-times AtMost (pos (suc k)) first n g e f h = ap (λ m. pos (m * g)) (sym e)
divisor_for-times Below (pos (suc k)) first n g e f h = ap (λ m. pos (m * g)) (sym e)
divisor_for-times Zero (negsuc k) first n g e f h =
    let same : suc n ≡ suc k = sym e in
    ap (λ m. divisor_for Zero (negsuc k *ℤ first) (m * g)) same ∙ ap (λ b. cond b (neg_ℤ (pos (suc k * g))) (pos (suc k * g))) (lt_negative k first h) ∙ go (int_lt first (pos 0))
  where
    go : (b : Bool) → cond (not b) (neg_ℤ (pos (suc k * g))) (pos (suc k * g)) ≡ negsuc k *ℤ cond b (neg_ℤ (pos g)) (pos g)
    go true = both_law (pos (suc k)) (pos g)
    go false = sym (neg_times_first (pos (suc k)) (pos g))
divisor_for-times AtMost (negsuc k) first n g e f h = let p = f.sign in absurd (omega (arith, ints))
divisor_for-times Below (negsuc k) first n g e f h = let p = f.sign in absurd (omega (arith, ints))

-- ---- quotients of multiples

-- a difference, multiplied
difference_law : (a x y : ℤ) → a *ℤ (x -ℤ y) ≡ a *ℤ x -ℤ a *ℤ y
difference_law a x y = rw (parts a, parts x, parts y) (simp ring (diff_same _ _ _ _ (omega arith)))

-- equal numbers have the difference 0
none_left : (x y : ℤ) → x ≡ y → unsigned_abs (x -ℤ y) ≡ 0
none_left x y e = omega (arith, ints)

-- and only they
no_difference : (x y : ℤ) → unsigned_abs (x -ℤ y) ≡ 0 → x ≡ y
no_difference x y e = omega (arith, ints)

-- a number that is not 0 has a magnitude above 0
pub magnitude : (a : ℤ) → a ≢ pos 0 → (n : ℕ) × (unsigned_abs a ≡ suc n)
magnitude (pos zero) h = absurd (h refl)
magnitude (pos (suc n)) h = (n, refl)
magnitude (negsuc n) h = (n, refl)

-- factors that are not 0 can be left out
pub cancel_factor : (a x y : ℤ) → a ≢ pos 0 → a *ℤ x ≡ a *ℤ y → x ≡ y
cancel_factor a x y h e =
    let m = magnitude a h in
    let product : unsigned_abs a * unsigned_abs (x -ℤ y) ≡ 0 = sym (unsigned_abs-mul a (x -ℤ y)) ∙ ap unsigned_abs (difference_law a x y) ∙ none_left (a *ℤ x) (a *ℤ y) e in
    no_difference x y (no_factor m.0 (unsigned_abs (x -ℤ y)) (ap (λ k. k * unsigned_abs (x -ℤ y)) (sym m.1) ∙ product))
  where
    no_factor : (n m : ℕ) → suc n * m ≡ 0 → m ≡ 0
    no_factor n m e = omega arith

-- the quotient of a multiple by its factor
pub exact_quotient : (d q : ℤ) → d ≢ pos 0 → int_div (d *ℤ q) d ≡ q
exact_quotient d q h =
    let alone : List (Slot × ℤ) = (record { number = 0; sort = Rat }, d *ℤ q) ∷ [] in
    let divides : DivideWhole d alone = all_whole d alone (subst (λ m. unsigned_abs d ∣ m) (sym (unsigned_abs-mul d q)) (dvd-mul_right (unsigned_abs d) (unsigned_abs q)), tt) in
    cancel_factor d (int_div (d *ℤ q) d) q h divides.0

-- a product of numbers that are not 0
pub product_nonzero : (k d : ℤ) → k ≢ pos 0 → d ≢ pos 0 → k *ℤ d ≢ pos 0
product_nonzero k d h l e = l (cancel_factor k d (pos 0) h (e ∙ sym (*ℤ-zero k)))

-- a multiple divided by a multiple
quotient_times : (k z d : ℤ) → k ≢ pos 0 → d ≢ pos 0 → d *ℤ int_div z d ≡ z → int_div (k *ℤ z) (k *ℤ d) ≡ int_div z d
quotient_times k z d h l e =
    ap (λ w. int_div (k *ℤ w) (k *ℤ d)) (sym e) ∙ ap (λ w. int_div w (k *ℤ d)) (times_regroup k d (int_div z d)) ∙ exact_quotient (k *ℤ d) (int_div z d) (product_nonzero k d h l)

-- of all coefficients
coefs_over-times : (k d : ℤ) (cs : List (Slot × ℤ)) → k ≢ pos 0 → d ≢ pos 0 → DivideWhole d cs → coefs_over (k *ℤ d) (coefs_times k cs) ≡ coefs_over d cs
coefs_over-times k d [] h l w = refl
coefs_over-times k d (c ∷ cs) h l w = ap₂ (λ q qs. (c.0, q) ∷ qs) (quotient_times k c.1 d h l w.0) (coefs_over-times k d cs h l w.1)

-- ---- normal rows of multiples

-- the first coefficient isn't 0
abbrev pub BeginsNonzero : List (Slot × ℤ) → Type 0
BeginsNonzero [] = Unit {0}
BeginsNonzero (c ∷ cs) = c.1 ≢ pos 0

-- the sign of a multiple
pub sign_times : (op : RowOp) (k z : ℤ) → IsFactor op k → sign_meets op (k *ℤ z) ≡ sign_meets op z
sign_times op (pos zero) z f = absurd (f.nonzero refl)
sign_times op (pos (suc k)) z f = sign_meets-times op k z
sign_times Zero (negsuc k) z f = ap (sign_meets Zero) (neg_times_first (pos (suc k)) z) ∙ sign_meets-turned (pos (suc k) *ℤ z) ∙ sign_meets-times Zero k z
sign_times AtMost (negsuc k) z f = let p = f.sign in absurd (omega (arith, ints))
sign_times Below (negsuc k) z f = let p = f.sign in absurd (omega (arith, ints))

-- the normal row of a multiple, by its coefficients
normal_with-times : (op : RowOp) (k m : ℤ) (cs : List (Slot × ℤ)) → IsFactor op k → BeginsNonzero cs
    → normal_with (record { coefs = coefs_times k cs; constant = k *ℤ m; op = op }) (coefs_times k cs) ≡ normal_with (record { coefs = cs; constant = m; op = op }) cs
normal_with-times op k m [] f h = ap constant_row (sign_times op k m f)
normal_with-times op k m (c ∷ cs) f h =
    let n = magnitude k f.nonzero in
    let d = divisor_of op m (c ∷ cs) in
    let divisor : divisor_of op (k *ℤ m) (coefs_times k (c ∷ cs)) ≡ k *ℤ d =
    ap (divisor_for op (k *ℤ c.1)) (gcd_all-times k m n.0 (c ∷ cs) n.1) ∙ divisor_for-times op k c.1 n.0 (gcd_all (m ∷ map (λ e. e.1) (c ∷ cs))) n.1 f h in
    let nonzero = divisor-nonzero_first op m c cs h in
    ap (λ e. row_over e (record { coefs = coefs_times k (c ∷ cs); constant = k *ℤ m; op = op })) divisor
    ∙ ap₂ (λ (xs : List (Slot × ℤ)) (z : ℤ). record { coefs = xs; constant = z; op = op })
    (coefs_over-times k d (c ∷ cs) f.nonzero nonzero (divisor-whole op m (c ∷ cs)))
    (quotient_times k m d f.nonzero nonzero (divisor-whole_constant op m c cs))

-- a row and a multiple of it have one normal row
pub normal_row-times : (k : ℤ) (r : LinearConstraint) → IsFactor r.op k → BeginsNonzero r.coefs → normal_row (row_times k r) ≡ normal_row r
unfolding normal_row
normal_row-times k r f h = normal_with-times r.op k r.constant r.coefs f h
