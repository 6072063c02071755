-- What a normal row is divided by divides each of its numbers without rest, and is not 0.
--
-- Its magnitude is the greatest common divisor of the numbers, which divides them all. It is above 0 where a number isn't 0.
use Rattle.std.proofs.Common.{◌≡◌, ◌≢◌, ℕ, zero, suc, ◌<◌, Bool, true, false, cond, List, [], ◌∷◌, map, arith, refl, sym, ap, ◌∙◌, subst}
use Rattle.std.specs.Prelude.{ℤ, pos, negsuc, ◌+ℤ◌, ◌*ℤ◌, int_lt, int_div, int_rem, unsigned_abs, ◌%◌}
use lib.IntN.{neg_ℤ}
use Prim.Native.Nat.{◌∣◌}
use Rattle.std.proofs.lemmas.Int.{ints, quot-rem}
use Rattle.std.proofs.Math.IntN.{*ℤ_comm, +ℤ_idr}
use Rattle.std.proofs.lemmas.Nat.Gcd.{mod-eq-zero_of_dvd}
use Rattle.ded_num.specs.Gcd.{gcd_all}
use Rattle.ded_num.proofs.Gcds.{DividesAll, DividesAll-gcd_all}
use Rattle.ded_model.specs.declared.slot.Slot.{Slot}
use Rattle.ded_model.specs.declared.row.RowOp.{RowOp}
use Rattle.ded_model.specs.declared.row.RowOp.TheVariants.{Zero, AtMost, Below}
pub use Rattle.ded_model.specs.Normal.{DivideWhole}
use Rattle.ded_model.specs.Normal.{divisor_for, divisor_of}

-- k divides z without rest
pub Whole : ℤ → ℤ → Type 0
Whole k z = k *ℤ int_div z k ≡ z

-- a division without rest of the magnitudes is one of the numbers
rem_zero : (z k : ℤ) → unsigned_abs z % unsigned_abs k ≡ 0 → int_rem z k ≡ pos 0
rem_zero (pos n) k e = ap pos e
rem_zero (negsuc n) k e = ap (λ m. neg_ℤ (pos m)) e

-- so it gives the number back
pub whole : (k z : ℤ) → unsigned_abs k ∣ unsigned_abs z → Whole k z
unfolding Whole
whole k z d =
    let e : int_rem z k ≡ pos 0 = rem_zero z k (mod-eq-zero_of_dvd (unsigned_abs k) d) in
    let q : int_div z k *ℤ k +ℤ int_rem z k ≡ z = quot-rem z k in
    *ℤ_comm k (int_div z k) ∙ (sym (+ℤ_idr (int_div z k *ℤ k)) ∙ ap (λ x. int_div z k *ℤ k +ℤ x) (sym e) ∙ q)

-- of all coefficients
pub all_whole : (k : ℤ) (cs : List (Slot × ℤ)) → DividesAll (unsigned_abs k) (map (λ c. c.1) cs) → DivideWhole k cs
unfolding Whole
all_whole k [] d = tt
all_whole k (c ∷ cs) d = (whole k c.1 d.0, all_whole k cs d.1)

-- the magnitude of the divisor
pub abs_divisor : (op : RowOp) (first : ℤ) (g : ℕ) → unsigned_abs (divisor_for op first g) ≡ g
abs_divisor Zero first g = go (int_lt first (pos 0))
  where
    go : (b : Bool) → unsigned_abs (cond b (neg_ℤ (pos g)) (pos g)) ≡ g
    go true = omega (arith, ints)
    go false = refl
abs_divisor AtMost first g = refl
abs_divisor Below first g = refl

-- a number that is not 0 has a common divisor above 0
pub positive_divisor : (g : ℕ) (z : ℤ) → g ∣ unsigned_abs z → z ≢ pos 0 → 0 < g
positive_divisor zero z d n = absurd (n (from_abs z (mod-eq-zero_of_dvd zero d)))
  where
    from_abs : (z : ℤ) → unsigned_abs z % 0 ≡ 0 → z ≡ pos 0
    from_abs (pos m) e = ap pos (omega arith)
    from_abs (negsuc m) e = absurd (omega arith)
positive_divisor (suc g) z d n = omega arith

-- the divisor is not 0
pub not_zero_divisor : (op : RowOp) (first : ℤ) (g : ℕ) → 0 < g → divisor_for op first g ≢ pos 0
not_zero_divisor op first zero h e = absurd (omega arith)
not_zero_divisor op first (suc g) h e = absurd (omega (arith, ap unsigned_abs e, abs_divisor op first (suc g)))

-- it divides the coefficients
pub divisor-whole : (op : RowOp) (constant : ℤ) (cs : List (Slot × ℤ)) → DivideWhole (divisor_of op constant cs) cs
divisor-whole op constant [] = tt
divisor-whole op constant (c ∷ cs) =
    let g = gcd_all (constant ∷ map (λ d. d.1) (c ∷ cs)) in
    all_whole (divisor_for op c.1 g) (c ∷ cs) (subst (λ m. DividesAll m (map (λ d. d.1) (c ∷ cs))) (sym (abs_divisor op c.1 g)) ((DividesAll-gcd_all (constant ∷ map (λ d. d.1) (c ∷ cs))).1))

-- it is not 0 where the first coefficient is not 0
pub divisor-nonzero_first : (op : RowOp) (constant : ℤ) (c : Slot × ℤ) (cs : List (Slot × ℤ)) → c.1 ≢ pos 0 → divisor_of op constant (c ∷ cs) ≢ pos 0
divisor-nonzero_first op constant c cs n z =
    let g = gcd_all (constant ∷ map (λ d. d.1) (c ∷ cs)) in
    let d : DividesAll g (map (λ c. c.1) (c ∷ cs)) = (DividesAll-gcd_all (constant ∷ map (λ d. d.1) (c ∷ cs))).1 in
    not_zero_divisor op c.1 g (positive_divisor g c.1 d.0 n) z

-- it divides the constant
pub divisor-whole_constant : (op : RowOp) (constant : ℤ) (c : Slot × ℤ) (cs : List (Slot × ℤ)) → divisor_of op constant (c ∷ cs) *ℤ int_div constant (divisor_of op constant (c ∷ cs)) ≡ constant
unfolding Whole
divisor-whole_constant op constant c cs =
    let g = gcd_all (constant ∷ map (λ d. d.1) (c ∷ cs)) in
    whole (divisor_for op c.1 g) constant (subst (λ m. m ∣ unsigned_abs constant) (sym (abs_divisor op c.1 g)) (DividesAll-gcd_all (constant ∷ map (λ d. d.1) (c ∷ cs))).0)
