-- Lengths of lines: short ones do not clash, and a combination has at most twice the length and one digit more.
--
-- A product of two numbers of at most b digits is below 2^b times 2^b, a difference of two such products below twice that.
-- With b = 63 all that is below 2^127. Dividing by the greatest common divisor makes no number longer.
use Rattle.std.proofs.Common.{◌≡◌, ◌≢◌, ℕ, zero, suc, ◌+◌, ◌*◌, ◌^◌, ◌<◌, ◌≤◌, nat_lt, Bool, true, false, not, ◌&&◌, cond, List, [], ◌∷◌, ◌⊎◌, inl, inr, refl, sym, ◌∙◌, ap, subst, true≢false, arith}
use Rattle.std.specs.Prelude.{ℤ, pos, negsuc, ◌+ℤ◌, ◌-ℤ◌, ◌*ℤ◌, int_div, unsigned_abs}
use lib.IntN.{neg_ℤ, +ℤ_idl}
use lib.Pow.{pow_pos}
use Rattle.std.proofs.Math.Pow.{pow-add, pow_mono}
use Rattle.std.proofs.Math.IntN.{*ℤ-zero, zero-*ℤ}
use Rattle.std.proofs.lemmas.Int.{ints, unsigned_abs-mul}
use Rattle.std.proofs.lemmas.Bool.Decides.{nat_tests}
use Rattle.ded_num.specs.Length.{IsWithin}
use Rattle.ded_num.proofs.Ring.{parts, ring, diff_same, mul-add_ℤ}
use Rattle.ded_model.specs.declared.slot.Slot.{Slot}
use Rattle.ded_model.specs.declared.row.RowOp.TheVariants.{Zero}
use Rattle.ded_model.specs.Point.{same_slot}
use Rattle.ded_model.specs.Coefs.{coef_at, mixed, nonzero, cut}
use Rattle.ded_model.specs.Normal.{coefs_over, divisor_of, normal_row}
use Rattle.ded_model.specs.Lines.{Line, In, line_with, combination, both_mention, is_long, products_clash, slots_clash, lines_clash, clash_at, elim_at, IsLineWithin, AreWithin}
use Rattle.ded_model.proofs.Divisors.{DivideWhole, divisor-whole, divisor-whole_constant}
use Rattle.ded_model.proofs.LineCoefs.{coef_at-mixed, coef_at-cut, coef_at-cut_here, coef_at-nonzero}
use Rattle.ded_model.proofs.Members.{elim-In, clash_of-In, Clash}
use Rattle.std.proofs.lemmas.Bool.{or_from, and_right}

-- a product of two numbers below p
below_square : (u v p : ℕ) → u < p → v < p → u * v < p * p
below_square u v p h k = grind arith

-- twice a square of powers
double_power : (b : ℕ) → 2 ^ (2 * b + 1) ≡ 2 ^ b * 2 ^ b + 2 ^ b * 2 ^ b
double_power b = let e : 2 * b + 1 ≡ b + (b + 1) = omega arith in rw e (rw (pow-add 2 b (b + 1), pow-add 2 b 1) (omega arith))

-- a product of two numbers of b digits
pub product_within : (k x : ℤ) (b : ℕ) → IsWithin b k → IsWithin b x → unsigned_abs (k *ℤ x) < 2 ^ b * 2 ^ b
product_within k x b h g = rw (unsigned_abs-mul k x) (below_square _ _ _ h g)

-- a difference of two such products
pub difference_within : (k x m y : ℤ) (b : ℕ) → IsWithin b k → IsWithin b x → IsWithin b m → IsWithin b y → IsWithin (2 * b + 1) (k *ℤ x -ℤ m *ℤ y)
difference_within k x m y b hk hx hm hy = sums (k *ℤ x) (m *ℤ y) (2 ^ b * 2 ^ b) (2 ^ (2 * b + 1)) (product_within k x b hk hx) (product_within m y b hm hy) (double_power b)
  where
    sums : (x y : ℤ) (p q : ℕ) → unsigned_abs x < p → unsigned_abs y < p → q ≡ p + p → unsigned_abs (x -ℤ y) < q
    sums x y p q h g e = omega (arith, ints)

-- ---- lines of at most 63 digits never clash

-- what is below the bound does not pass it
not_lt : (n m : ℕ) → n < m → not (nat_lt n m) ≡ false
not_lt n m h = grind (arith, nat_tests)

-- a number of at most 127 digits is not too long
pub not_long : (z : ℤ) → IsWithin 127 z → is_long z ≡ false
not_long z h = not_lt (unsigned_abs z) (2 ^ 127) h

-- products of numbers of 63 digits fit
products_fit : (k x m y : ℤ) → IsWithin 63 k → IsWithin 63 x → IsWithin 63 m → IsWithin 63 y → products_clash k x m y ≡ false
products_fit k x m y hk hx hm hy =
    let p = product_within k x 63 hk hx in
    let q = product_within m y 63 hm hy in
    or_from _ _ (or_from _ _ (not_long (k *ℤ x) (omega arith)) (not_long (m *ℤ y) (omega arith))) (not_long (k *ℤ x -ℤ m *ℤ y) (difference_within k x m y 63 hk hx hm hy))

-- at each slot of a list
slots_fit : (s : Slot) (l m : Line) (cs : List (Slot × ℤ)) → IsLineWithin 63 l → IsLineWithin 63 m → slots_clash s l m cs ≡ false
slots_fit s l m [] h k = refl
slots_fit s l m (c ∷ cs) h k =
    or_from _ _ (and_right (not (same_slot c.0 s)) _ (products_fit (coef_at m.coefs s) (coef_at l.coefs c.0) (coef_at l.coefs s) (coef_at m.coefs c.0) (k.coefs s) (h.coefs c.0) (h.coefs s) (k.coefs c.0))) (slots_fit s l m cs h k)

-- of two lines
pub lines_fit : (s : Slot) (l m : Line) → IsLineWithin 63 l → IsLineWithin 63 m → lines_clash s l m ≡ false
unfolding lines_clash
lines_fit s l m h k =
    or_from _ _ (or_from _ _ (slots_fit s l m l.coefs h k) (slots_fit s l m m.coefs h k)) (products_fit (coef_at m.coefs s) l.constant (coef_at l.coefs s) m.constant (k.coefs s) h.constant (h.coefs s) k.constant)

-- what is not true is false
from_not_true : (b : Bool) → ¬ (b ≡ true) → b ≡ false
from_not_true true h = absurd (h refl)
from_not_true false h = refl

-- so two short lines do not clash
no_clash_of_two : (s : Slot) (l m : Line) → IsLineWithin 63 l → IsLineWithin 63 m → ¬ Clash s l m
unfolding Clash
no_clash_of_two s l m h k c = true≢false (sym c ∙ and_right (both_mention s l m) _ (lines_fit s l m h k))

-- nor does a set of short lines
pub no_clash : (s : Slot) (ls : List Line) → AreWithin 63 ls → clash_at s ls ≡ false
unfolding clash_at
no_clash s ls h = from_not_true (clash_at s ls) (λ e. let r = clash_of-In s ls ls e in no_clash_of_two s r.0 r.1 (h r.0 r.2) (h r.1 r.3) r.4)

-- ---- the normal line is no longer

-- a coefficient and the rest, divided
pub over_part : (b : Bool) (k c q x y : ℤ) → k *ℤ q ≡ c → k *ℤ x ≡ y → k *ℤ (cond b q (pos 0) +ℤ x) ≡ cond b c (pos 0) +ℤ y
over_part true k c q x y e f = mul-add_ℤ k q x ∙ rw (e, f)
over_part false k c q x y e f = ap (λ w. k *ℤ w) (+ℤ_idl x) ∙ f ∙ sym (+ℤ_idl y)

-- a coefficient, divided, is a quotient
coef_at-over : (k : ℤ) (cs : List (Slot × ℤ)) (t : Slot) → DivideWhole k cs → k *ℤ coef_at (coefs_over k cs) t ≡ coef_at cs t
coef_at-over k [] t h = *ℤ-zero k
coef_at-over k (c ∷ cs) t h = over_part (same_slot c.0 t) k c.1 (int_div c.1 k) _ _ h.0 (coef_at-over k cs t h.1)

-- a factor is at most the product
times_more : (a x y : ℕ) → 0 < a → a * x ≡ y → x ≤ y
times_more zero x y h e = absurd (omega arith)
times_more (suc a) x y h e = omega arith

-- a number that is not 0 has a magnitude
pub some_abs : (k : ℤ) → k ≢ pos 0 → 0 < unsigned_abs k
some_abs k n = elim (below_or 0 (unsigned_abs k)) [ inl h ↦ h | inr h ↦ absurd (n (omega (arith, ints))) ]
  where
    below_or : (k m : ℕ) → (k < m) ⊎ (m ≤ k)
    below_or k m = grind arith

-- a quotient is no longer
pub quotient_within : (k x y : ℤ) (b : ℕ) → k ≢ pos 0 → k *ℤ x ≡ y → IsWithin b y → IsWithin b x
quotient_within k x y b n e h =
    let f : unsigned_abs k * unsigned_abs x ≡ unsigned_abs y = sym (unsigned_abs-mul k x) ∙ ap unsigned_abs e in
    let g = times_more (unsigned_abs k) (unsigned_abs x) (unsigned_abs y) (some_abs k n) f in omega arith

-- 0 has no digits
pub zero_within : (b : ℕ) → IsWithin b (pos 0)
zero_within b = omega (arith, pow_pos b)

-- what 0 divides without rest is 0, and so is the quotient
zero_quotient : (z : ℤ) → pos 0 *ℤ int_div z (pos 0) ≡ z → int_div z (pos 0) ≡ pos 0
zero_quotient z e = ap (λ x. int_div x (pos 0)) (sym e ∙ zero-*ℤ (int_div z (pos 0)))

-- a quotient is no longer, whatever divides
number_over : (k z : ℤ) (b : ℕ) → k *ℤ int_div z k ≡ z → IsWithin b z → IsWithin b (int_div z k)
number_over (pos zero) z b e h = subst (IsWithin b) (sym (zero_quotient z e)) (zero_within b)
number_over (pos (suc n)) z b e h = quotient_within (pos (suc n)) (int_div z (pos (suc n))) z b (λ n. absurd (omega (arith, ints, n))) e h
number_over (negsuc n) z b e h = quotient_within (negsuc n) (int_div z (negsuc n)) z b (λ n. absurd (omega (arith, ints, n))) e h

-- a coefficient and the rest, where both are 0
zero_part : (b : Bool) (q x : ℤ) → q ≡ pos 0 → x ≡ pos 0 → cond b q (pos 0) +ℤ x ≡ pos 0
zero_part true q x e f = rw (e, f) refl
zero_part false q x e f = +ℤ_idl x ∙ f

coef_at-over_zero : (cs : List (Slot × ℤ)) (t : Slot) → DivideWhole (pos 0) cs → coef_at (coefs_over (pos 0) cs) t ≡ pos 0
coef_at-over_zero [] t h = refl
coef_at-over_zero (c ∷ cs) t h = zero_part (same_slot c.0 t) _ _ (zero_quotient c.1 h.0) (coef_at-over_zero cs t h.1)

coef_over : (k : ℤ) (cs : List (Slot × ℤ)) (t : Slot) (b : ℕ) → DivideWhole k cs → IsWithin b (coef_at cs t) → IsWithin b (coef_at (coefs_over k cs) t)
coef_over (pos zero) cs t b w h = subst (IsWithin b) (sym (coef_at-over_zero cs t w)) (zero_within b)
coef_over (pos (suc n)) cs t b w h = quotient_within (pos (suc n)) _ _ b (λ n. absurd (omega (arith, ints, n))) (coef_at-over (pos (suc n)) cs t w) h
coef_over (negsuc n) cs t b w h = quotient_within (negsuc n) _ _ b (λ n. absurd (omega (arith, ints, n))) (coef_at-over (negsuc n) cs t w) h

-- so the line of numbers is no longer than these
pub line_with-within : (cs : List (Slot × ℤ)) (constant : ℤ) (b : ℕ) → ((t : Slot) → IsWithin b (coef_at cs t)) → IsWithin b constant → AreWithin b (line_with cs constant)
unfolding normal_row
line_with-within [] constant b h k l i = absurd i
line_with-within (c ∷ cs) constant b h k l (inr i) = absurd i
line_with-within (c ∷ cs) constant b h k l (inl e) =
    let d = divisor_of Zero constant (c ∷ cs) in
    subst (IsLineWithin b) (sym e) (record {
      coefs = λ t. coef_over d (c ∷ cs) t b (divisor-whole Zero constant (c ∷ cs)) (h t);
      constant = number_over d constant b (divisor-whole_constant Zero constant c cs) k;
    })

-- ---- combinations

-- a sum with a negative factor
pub sum_is_difference : (k x a y : ℤ) → k *ℤ x +ℤ neg_ℤ a *ℤ y ≡ k *ℤ x -ℤ a *ℤ y
sum_is_difference k x a y = rw (parts k, parts x, parts a, parts y) (simp ring (diff_same _ _ _ _ (omega arith)))

-- what is cut is no longer
cut_within : (s : Slot) (cs : List (Slot × ℤ)) (b : ℕ) (t : Slot) (e : Bool) → same_slot s t ≡ e → IsWithin b (coef_at cs t) → IsWithin b (coef_at (nonzero (cut s cs)) t)
cut_within s cs b t true e h = subst (IsWithin b) (sym (coef_at-nonzero (cut s cs) t ∙ coef_at-cut_here s cs t e)) (zero_within b)
cut_within s cs b t false e h = subst (IsWithin b) (sym (coef_at-nonzero (cut s cs) t ∙ coef_at-cut s cs t e)) h

-- a combination of two lines
pub combination-within : (s : Slot) (l m : Line) (b : ℕ) → IsLineWithin b l → IsLineWithin b m → AreWithin (2 * b + 1) (combination s l m)
combination-within s l m b h k =
    let x = coef_at l.coefs s in
    let y = coef_at m.coefs s in
    let cs = mixed y l.coefs (neg_ℤ x) m.coefs in
    line_with-within (nonzero (cut s cs)) (y *ℤ l.constant -ℤ x *ℤ m.constant) (2 * b + 1)
    (λ t. cut_within s cs (2 * b + 1) t (same_slot s t) refl
    (subst (IsWithin (2 * b + 1)) (sym (coef_at-mixed y l.coefs (neg_ℤ x) m.coefs t ∙ sum_is_difference y (coef_at l.coefs t) x (coef_at m.coefs t)))
    (difference_within y (coef_at l.coefs t) x (coef_at m.coefs t) b (k.coefs s) (h.coefs t) (h.coefs s) (k.coefs t))))
    (difference_within y l.constant x m.constant b (k.coefs s) h.constant (h.coefs s) k.constant)

-- a line within less
pub within_more : (k m : ℕ) (l : Line) → k ≤ m → IsLineWithin k l → IsLineWithin m l
within_more k m l h w = let p : 2 ^ k ≤ 2 ^ m = pow_mono h in record { coefs = λ t. let x = w.coefs t in omega arith; constant = let x = w.constant in omega arith }

-- a choice of lines or none
pub choice : (b : Bool) (ls : List Line) (l : Line) → In l (cond b ls []) → In l ls
choice true ls l h = h
choice false ls l h = absurd h

-- so an elimination of a set
pub elim-within : (s : Slot) (ls : List Line) (b : ℕ) → AreWithin b ls → AreWithin (2 * b + 1) (elim_at s ls)
elim-within s ls b h l i = elim (elim-In s ls l i) [
  | inl a ↦ within_more b (2 * b + 1) l (omega arith) (h l a.0)
  | inr p ↦ combination-within s p.first p.second b (h p.first p.in_first) (h p.second p.in_second) l
      (choice (both_mention s p.first p.second && not (lines_clash s p.first p.second)) (combination s p.first p.second) l p.combined)
]
