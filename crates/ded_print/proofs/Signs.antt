-- Signs of numbers that are printed, and of the first coefficient of a normal equality.
use Rattle.std.proofs.Common.{◌≡◌, ◌≢◌, ℕ, zero, suc, List, [], ◌∷◌, map, refl, sym, ap, ◌∙◌, arith, Bool, true, false, true≢false}
use Rattle.std.specs.Prelude.{ℤ, pos, negsuc, int_lt, int_div, unsigned_abs, if◌then◌else◌}
use lib.IntN.{neg_ℤ}
use Rattle.std.proofs.Math.IntN.{neg_ℤ-neg_ℤ}
use Rattle.std.proofs.lemmas.Bool.Decides.{nat_tests}
use Rattle.ded_num.specs.Gcd.{gcd_all}
use Rattle.ded_num.proofs.Signs.{unsigned_abs-neg}
use Rattle.ded_model.specs.declared.row.RowOp.{RowOp}
use Rattle.ded_model.specs.declared.row.RowOp.TheVariants.{Zero, AtMost, Below}
use Rattle.ded_model.specs.declared.slot.Slot.{Slot}
use Rattle.ded_model.specs.Constraint.{LinearConstraint}
use Rattle.ded_model.specs.Normal.{IsNormalRow, normal_row}
use Rattle.ded_model.proofs.Divisors.{divisor-nonzero_first}
use Rattle.ded_print.specs.Tuples.{signed}

pub plus : (n : ℕ) → int_lt (pos n) (pos 0) ≡ false
plus n = grind (arith, nat_tests)

-- a number is told by its magnitude and its sign
pub same_signed : (a b : ℤ) → unsigned_abs a ≡ unsigned_abs b → int_lt a (pos 0) ≡ int_lt b (pos 0) → a ≡ b
same_signed (pos m) (pos n) e s = ap pos e
same_signed (pos m) (negsuc n) e s = absurd (true≢false (sym (sym (plus m) ∙ s)))
same_signed (negsuc m) (pos n) e s = absurd (true≢false (s ∙ plus n))
same_signed (negsuc m) (negsuc n) e s = let k : m ≡ n = omega (arith, e) in ap negsuc k

pub turned_abs : (t : Bool) (z : ℤ) → unsigned_abs (signed t z) ≡ unsigned_abs z
turned_abs true z = unsigned_abs-neg z
turned_abs false z = refl

pub same_neg : (a b : ℤ) → neg_ℤ a ≡ neg_ℤ b → a ≡ b
same_neg a b e = sym (neg_ℤ-neg_ℤ a) ∙ ap neg_ℤ e ∙ neg_ℤ-neg_ℤ b

pub same_turned : (t : Bool) (a b : ℤ) → signed t a ≡ signed t b → a ≡ b
same_turned true a b e = same_neg a b e
same_turned false a b e = e

-- ---- the first coefficient of a normal equality

differ : (m n : ℕ) → pos m ≡ negsuc n → ⊥
differ m n e = cc

-- a number that stays when it is divided by one whose sign is its own isn't negative
stays : (z : ℤ) (g : ℕ) → (if int_lt z (pos 0) then neg_ℤ (pos g) else pos g) ≢ pos 0 → int_div z (if int_lt z (pos 0) then neg_ℤ (pos g) else pos g) ≡ z → int_lt z (pos 0) ≡ false
stays (pos n) g nonzero e = plus n
stays (negsuc n) zero nonzero e = absurd (nonzero refl)
stays (negsuc n) (suc g) nonzero e = absurd (differ _ n e)

first_number : List (Slot × ℤ) → ℤ
first_number [] = pos 0
first_number (c ∷ cs) = c.1

equality_plus : (m : ℤ) (c : Slot × ℤ) (cs : List (Slot × ℤ)) → c.1 ≢ pos 0 → IsNormalRow (record { coefs = c ∷ cs; constant = m; op = Zero }) → int_lt c.1 (pos 0) ≡ false
unfolding normal_row first_number
equality_plus m c cs n k =
    stays c.1 (gcd_all (m ∷ map (λ d. d.1) (c ∷ cs))) (divisor-nonzero_first Zero m c cs n) (ap (λ (r : LinearConstraint). first_number r.coefs) k.normal)

pub turned_if : (op : RowOp) (m : ℤ) (c : Slot × ℤ) (cs : List (Slot × ℤ)) → c.1 ≢ pos 0 → IsNormalRow (record { coefs = c ∷ cs; constant = m; op = op }) → op ≡ Zero → int_lt c.1 (pos 0) ≡ false
turned_if Zero m c cs n k e = equality_plus m c cs n k
turned_if AtMost m c cs n k e = absurd cc
turned_if Below m c cs n k e = absurd cc
