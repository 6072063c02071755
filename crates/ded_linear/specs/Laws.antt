-- Laws of rows as the atoms of a theory.
use Rattle.std.proofs.Common.{◌≡◌, ℕ, arith, zero, suc, true, false, List, [], ◌∷◌, refl, sym, ap, ◌∙◌, true≢false, inl, inr}
use Rattle.std.specs.Prelude.{ℤ, pos, negsuc, int_lt}
use Rattle.std.proofs.lemmas.Int.{ints}
use lib.IntN.{neg_ℤ}
use Rattle.ded_model.specs.declared.slot.Slot.{Slot}
use Rattle.ded_model.specs.declared.slot.Sort.TheVariants.{Rat}
use Rattle.ded_model.specs.declared.row.RowOp.{RowOp}
use Rattle.ded_model.specs.declared.row.RowOp.TheVariants.{Zero, AtMost, Below}
use Rattle.ded_model.specs.Constraint.{LinearConstraint}
use Rattle.ded_model.specs.Coefs.{AreCoefs}
use Rattle.ded_model.specs.Point.{Point, same_slot}
use Rattle.ded_model.specs.Row.{row_at, sign_meets, row_holds, row_mentions}
use Rattle.ded_model.specs.Cell.{sign, row_cell}
use Rattle.ded_model.specs.Lines.{Line, In, row_lines}
use Rattle.ded_model.proofs.LineSlots.{has_slot, line_slots}
use Rattle.ded_model.proofs.Members.{or_split}
use Rattle.std.proofs.lemmas.Bool.Decides.{nat_tests}
use Rattle.ded_model.proofs.Points.{same_slot_is}
use Rattle.ded_model.proofs.Rows.{sign_meets-same}
use Rattle.ded_elimination.specs.LinearAtoms.{IsLinearAtom, is_rational}

-- ---- cells

-- a number above 0 has the sign 1
above_sign : (n : ℕ) → sign (pos (suc n)) ≡ pos 1
above_sign n = rw (not_below_zero n, above_zero n) refl
  where
    not_below_zero : (n : ℕ) → int_lt (pos (suc n)) (pos 0) ≡ false
    not_below_zero n = grind (arith, nat_tests)

    above_zero : (n : ℕ) → int_lt (pos 0) (pos (suc n)) ≡ true
    above_zero n = grind (arith, nat_tests)

-- an op asks for the sign alone
sign_tells : (op : RowOp) (z : ℤ) → sign_meets op z ≡ sign_meets op (sign z)
sign_tells op (pos zero) = refl
sign_tells op (pos (suc n)) = sign_meets-same op (pos (suc n)) (pos 1) (suc n) 1 (omega arith) (omega arith) (omega (arith, ints)) ∙ ap (sign_meets op) (sym (above_sign n))
sign_tells Zero (negsuc n) = refl
sign_tells AtMost (negsuc n) = refl
sign_tells Below (negsuc n) = refl

-- the sign of a negative is the negative of the sign
pub sign-turned : (z : ℤ) → sign (neg_ℤ z) ≡ neg_ℤ (sign z)
sign-turned (pos zero) = refl
sign-turned (pos (suc n)) = ap neg_ℤ (sym (above_sign n))
sign-turned (negsuc n) = above_sign n

-- numbers of one sign compare with 0 alike
pub by_sign : (op : RowOp) (x y : ℤ) → sign x ≡ sign y → sign_meets op x ≡ sign_meets op y
by_sign op x y e = sign_tells op x ∙ ap (sign_meets op) e ∙ sym (sign_tells op y)

-- a row holds alike at two points at which it has one cell
pub cells_tell : (r : LinearConstraint) (p q : Point) → row_cell r p ≡ row_cell r q → row_holds r p ≡ row_holds r q
unfolding row_holds
cells_tell r p q e = by_sign r.op (row_at r p) (row_at r q) e

-- ---- slots

rational : (t : Slot) → t.sort ≡ Rat → is_rational t.sort ≡ true
rational t e = ap is_rational e

coefs_owned : (cs : List (Slot × ℤ)) (s : Slot) → AreCoefs cs → has_slot cs s ≡ true → s.sort ≡ Rat
coefs_owned [] s h m = absurd (true≢false (sym m))
coefs_owned (c ∷ cs) s h m = elim (or_split (same_slot c.0 s) _ m) [
  | inl e ↦ ap (λ (t : Slot). t.sort) (sym (same_slot_is c.0 s e)) ∙ h.0
  | inr e ↦ coefs_owned cs s h.4 e
]

-- each slot that a row mentions on which eliminations work is rational
pub rational_slots : (r : LinearConstraint) (s : Slot) → IsLinearAtom r → row_mentions r s ≡ true → s.sort ≡ Rat
unfolding row_mentions
rational_slots r s h m = coefs_owned r.coefs s h.coefs m

-- the sort of each slot that a row mentions on which eliminations work passes the test for rationals
pub owned_slots : (r : LinearConstraint) (s : Slot) → IsLinearAtom r → row_mentions r s ≡ true → is_rational s.sort ≡ true
owned_slots r s h m = rational s (rational_slots r s h m)

-- a row mentions each slot that its lines mention
pub slots_of_lines : (r : LinearConstraint) (l : Line) (s : Slot) → In l (row_lines r) → row_mentions l s ≡ true → row_mentions r s ≡ true
unfolding row_mentions
slots_of_lines r l s i m = line_slots r.coefs r.constant l s i m
