-- A row and its normal row hold at the same points.
--
-- The numbers of a row are divided by their greatest common divisor, turned where the first coefficient of an equality is
-- negative. The divisor times the normal row's sum is the row's sum (`row_at-row_over`), and such a factor keeps the sign, or
-- turns that of an equality (`sign_meets-divisor`). A row of zeros alone is divided by 0, which leaves zeros.
use Rattle.std.proofs.Common.{◌≡◌, ℕ, zero, suc, ◌<◌, Bool, true, false, cond, List, [], ◌∷◌, map, arith, refl, sym, ap, ◌∙◌, subst}
use Rattle.std.specs.Prelude.{ℤ, pos, negsuc, ◌+ℤ◌, ◌*ℤ◌, int_lt, int_div, unsigned_abs, ◌%◌}
use lib.IntN.{neg_ℤ}
use Prim.Native.Nat.{◌∣◌}
use Rattle.std.proofs.lemmas.Int.{ints}
use Rattle.std.proofs.lemmas.Bool.Decides.{same_from_decides, Decides-int_eq}
use Rattle.std.proofs.Math.IntN.{*ℤ-zero, zero-*ℤ}
use Rattle.std.proofs.lemmas.Nat.Gcd.{mod-eq-zero_of_dvd}
use Rattle.ded_num.specs.Gcd.{gcd_all}
use Rattle.ded_num.proofs.Gcds.{DividesAll, DividesAll-gcd_all}
use Rattle.ded_num.proofs.Ring.{parts, ring, diff-pos, diff_same}
use Rattle.ded_num.proofs.Signs.{neg_times_first}
use Rattle.ded_model.specs.declared.slot.Slot.{Slot}
use Rattle.ded_model.specs.declared.row.RowOp.{RowOp}
use Rattle.ded_model.specs.declared.row.RowOp.TheVariants.{Zero, AtMost, Below}
use Rattle.ded_model.specs.Constraint.{LinearConstraint}
use Rattle.ded_model.specs.Point.{Point, slot, number_at}
use Rattle.ded_model.specs.Row.{sum_at, row_at, sign_meets, row_holds}
use Rattle.ded_model.specs.Normal.{divisor_for, coefs_over, row_over, constant_row, normal_with, normal_row}
use Rattle.ded_model.proofs.Rows.{sign_meets-same}
use Rattle.ded_model.proofs.Divisors.{DivideWhole, divisor-whole, divisor-whole_constant}

-- ---- the sum of a divided row

-- a factor goes into a sum of a product and a rest
factor_law : (k a x y : ℤ) → k *ℤ (a *ℤ x +ℤ y) ≡ (k *ℤ a) *ℤ x +ℤ k *ℤ y
factor_law k a x y = rw (parts k, parts a, parts x, parts y) (simp ring (diff_same _ _ _ _ (omega arith)))

-- and into one with the rest first
swapped_law : (k a x y : ℤ) → k *ℤ (y +ℤ a *ℤ x) ≡ k *ℤ y +ℤ (k *ℤ a) *ℤ x
swapped_law k a x y = rw (parts k, parts a, parts x, parts y) (simp ring (diff_same _ _ _ _ (omega arith)))

-- the divisor times the sum of the divided coefficients is the sum
sum_at-coefs_over : (k : ℤ) (cs : List (Slot × ℤ)) (p : Point) → DivideWhole k cs → k *ℤ sum_at (coefs_over k cs) p ≡ sum_at cs p
sum_at-coefs_over k [] p h = *ℤ-zero k
sum_at-coefs_over k (c ∷ cs) p h = factor_law k (int_div c.1 k) (number_at p (slot c.0)) (sum_at (coefs_over k cs) p) ∙ rw (h.0, sum_at-coefs_over k cs p h.1)

-- the same of the row
row_at-row_over : (k : ℤ) (r : LinearConstraint) (p : Point) → DivideWhole k r.coefs → k *ℤ int_div r.constant k ≡ r.constant → k *ℤ row_at (row_over k r) p ≡ row_at r p
row_at-row_over k r p h e = swapped_law k (int_div r.constant k) (pos p.den) (sum_at (coefs_over k r.coefs) p) ∙ rw (sum_at-coefs_over k r.coefs p h, e)

-- ---- the sign of a multiple

-- a factor of 1 on the other side
one_law : (k z : ℤ) → (k *ℤ z) *ℤ pos 1 ≡ z *ℤ k
one_law k z = rw (parts k, parts z, diff-pos 1) (simp ring (diff_same _ _ _ _ (omega arith)))

-- a positive factor keeps the sign
pub sign_meets-times : (op : RowOp) (n : ℕ) (z : ℤ) → sign_meets op (pos (suc n) *ℤ z) ≡ sign_meets op z
sign_meets-times op n z = sign_meets-same op (pos (suc n) *ℤ z) z (suc n) 1 (omega arith) (omega arith) (one_law (pos (suc n)) z)

-- an equality holds of a number and of its negative
pub sign_meets-turned : (z : ℤ) → sign_meets Zero (neg_ℤ z) ≡ sign_meets Zero z
sign_meets-turned z =
    same_from_decides _ _ (Decides-int_eq (neg_ℤ z) (pos 0)) (λ e. let f : z ≡ pos 0 = (Decides-int_eq z (pos 0)).0 e in omega (arith, ints), λ e. let f : z ≡ pos 0 = omega (arith, ints) in (Decides-int_eq z (pos 0)).1 f)

-- the divisor keeps the sign, or turns that of an equality
sign_meets-divisor : (op : RowOp) (first : ℤ) (n : ℕ) (z : ℤ) → sign_meets op (divisor_for op first (suc n) *ℤ z) ≡ sign_meets op z
sign_meets-divisor Zero first n z = go (int_lt first (pos 0))
  where
    go : (b : Bool) → sign_meets Zero (cond b (neg_ℤ (pos (suc n))) (pos (suc n)) *ℤ z) ≡ sign_meets Zero z
    go true = ap (sign_meets Zero) (neg_times_first (pos (suc n)) z) ∙ sign_meets-turned (pos (suc n) *ℤ z) ∙ sign_meets-times Zero n z
    go false = sign_meets-times Zero n z
sign_meets-divisor AtMost first n z = sign_meets-times AtMost n z
sign_meets-divisor Below first n z = sign_meets-times Below n z

-- ---- rows of zeros

-- a divisor of 0 is 0 in either sign
divisor_for-zero : (op : RowOp) (first : ℤ) → divisor_for op first 0 ≡ pos 0
divisor_for-zero Zero first = go (int_lt first (pos 0))
  where
    go : (b : Bool) → cond b (neg_ℤ (pos 0)) (pos 0) ≡ pos 0
    go true = refl
    go false = refl
divisor_for-zero AtMost first = refl
divisor_for-zero Below first = refl

-- 0 divides 0 alone
zero_divides : (z : ℤ) → 0 ∣ unsigned_abs z → z ≡ pos 0
zero_divides z d = from_abs z (mod-eq-zero_of_dvd zero d)
  where
    from_abs : (z : ℤ) → unsigned_abs z % 0 ≡ 0 → z ≡ pos 0
    from_abs (pos m) e = ap pos (omega arith)
    from_abs (negsuc m) e = absurd (omega arith)

-- zeros divided by 0 stay as they are
coefs_over-zero : (cs : List (Slot × ℤ)) → DividesAll 0 (map (λ c. c.1) cs) → coefs_over (pos 0) cs ≡ cs
coefs_over-zero [] d = refl
coefs_over-zero (c ∷ cs) d = rw (zero_divides c.1 d.0, coefs_over-zero cs d.1)

-- so does a row of them
row_over-zero : (k : ℤ) (r : LinearConstraint) → k ≡ pos 0 → DividesAll 0 (r.constant ∷ map (λ c. c.1) r.coefs) → row_over k r ≡ r
row_over-zero k r e d = rw (e, coefs_over-zero r.coefs d.1, zero_divides r.constant d.0)

-- ---- the normal row

-- the true row holds, the false one doesn't
pub constant_row-holds : (b : Bool) (p : Point) → row_holds (constant_row b) p ≡ b
unfolding row_holds
constant_row-holds b p = go b (pos 0 +ℤ pos 0 *ℤ pos p.den) (ap (λ x. pos 0 +ℤ x) (zero-*ℤ (pos p.den)))
  where
    go : (b : Bool) (z : ℤ) → z ≡ pos 0 → sign_meets (cond b Zero Below) z ≡ b
    go true z e = rw e
    go false z e = rw e

-- a row without coefficients has the sign of its constant
pub no_coefs : (op : RowOp) (c : ℤ) (d : ℕ) → 0 < d → sign_meets op c ≡ sign_meets op (pos 0 +ℤ c *ℤ pos d)
no_coefs op c d h = sign_meets-same op c (pos 0 +ℤ c *ℤ pos d) 1 d (omega arith) h (law c (pos d))
  where
    law : (c d : ℤ) → c *ℤ d ≡ (pos 0 +ℤ c *ℤ d) *ℤ pos 1
    law c d = rw (parts c, parts d, diff-pos 0, diff-pos 1) (simp ring (diff_same _ _ _ _ (omega arith)))

-- a row divided by what its numbers have in common
module _ (op : RowOp) (m : ℤ) (c : Slot × ℤ) (cs : List (Slot × ℤ)) (p : Point) where
  -- the row
  row : LinearConstraint
  row = record { coefs = c ∷ cs; constant = m; op = op }

  -- its numbers
  all : List ℤ
  all = m ∷ map (λ d. d.1) (c ∷ cs)

  -- where that is above 0, and where it is 0
  divided : (g : ℕ) → gcd_all all ≡ g → row_holds (row_over (divisor_for op c.1 g) row) p ≡ row_holds row p
  unfolding row_holds row all
  divided zero e = ap (λ r. row_holds r p) (row_over-zero (divisor_for op c.1 0) row (divisor_for-zero op c.1) (subst (λ g. DividesAll g all) e (DividesAll-gcd_all all)))
  divided (suc n) e =
      let k = divisor_for op c.1 (suc n) in
      let same : divisor_for op c.1 (gcd_all all) ≡ k = ap (divisor_for op c.1) e in
      let whole : DivideWhole k (c ∷ cs) = subst (λ k. DivideWhole k (c ∷ cs)) same (divisor-whole op m (c ∷ cs)) in
      let constant : k *ℤ int_div m k ≡ m = subst (λ k. k *ℤ int_div m k ≡ m) same (divisor-whole_constant op m c cs) in
      sym (sign_meets-divisor op c.1 n (row_at (row_over k row) p)) ∙ ap (sign_meets op) (row_at-row_over k row p whole constant)

-- the normal row, by its coefficients
normal_with-holds : (op : RowOp) (m : ℤ) (cs : List (Slot × ℤ)) (p : Point) → 0 < p.den
    → row_holds (normal_with (record { coefs = cs; constant = m; op = op }) cs) p ≡ row_holds (record { coefs = cs; constant = m; op = op }) p
unfolding row_holds row all
normal_with-holds op m [] p h = constant_row-holds (sign_meets op m) p ∙ no_coefs op m p.den h
normal_with-holds op m (c ∷ cs) p h = divided op m c cs p (gcd_all (m ∷ map (λ d. d.1) (c ∷ cs))) refl

-- the normal row holds at the same points
pub normal_row-holds : (r : LinearConstraint) (p : Point) → 0 < p.den → row_holds (normal_row r) p ≡ row_holds r p
unfolding normal_row
normal_row-holds r p h = normal_with-holds r.op r.constant r.coefs p h
