-- The operands and comparisons that are read back of how formulas and tuples are written.
use Rattle.std.specs.Prelude.{ℕ, ℤ, pos, int_lt, int_div, Bool, true, false, not, List, [], ◌∷◌, Option, Some, None, if◌then◌else◌}
use lib.IntN.{neg_ℤ}
use Rattle.std.specs.Ordering.{int_eq}
use Rattle.ded_num.specs.Gcd.{gcd_all}
use Rattle.ded_model.specs.declared.formula.CompareOp.{CompareOp}
use Rattle.ded_model.specs.declared.formula.CompareOp.TheVariants.{Less, LessEq, Equal, NotEqual, GreaterEq, Greater}
use Rattle.ded_model.specs.declared.formula.Operand.{Operand}
use Rattle.ded_model.specs.declared.formula.Operand.TheVariants.{Single, Sum, Quoted}
use Rattle.ded_model.specs.declared.row.RowOp.{RowOp}
use Rattle.ded_model.specs.declared.row.RowOp.TheVariants.{Zero, AtMost, Below}
use Rattle.ded_model.specs.declared.slot.Slot.{Slot}
use Rattle.ded_model.specs.Constraint.{LinearConstraint}
use Rattle.ded_model.specs.Form.{FormAtom, compare}
use Rattle.ded_model.specs.LongRows.{coefficients}
use Rattle.ded_model.specs.Normal.{is_true_row}
use Rattle.ded_model.specs.Sum as sum
use Rattle.ded_print.specs.Tuples.{Names, signed}

-- ---- operands

-- the greatest common divisor of all numbers of a sum
abbrev pub divisor_in : sum.Sum → ℤ
divisor_in t = pos (gcd_all (t.over ∷ t.constant ∷ coefficients t.parts))

-- the parts, with each coefficient divided by g
abbrev pub parts_by : ℤ → List (List ℕ × ℤ) → List (List ℕ × ℤ)
parts_by g [] = []
parts_by g (p ∷ ps) = (p.0, int_div p.1 g) ∷ parts_by g ps

-- the sum in lowest numbers
abbrev pub lowest_sum : sum.Sum → sum.Sum
lowest_sum t = record { parts = parts_by (divisor_in t) t.parts; constant = int_div t.constant (divisor_in t); over = int_div t.over (divisor_in t) }

-- what is read back of an operand: a sum in lowest numbers, and any other one itself
abbrev pub restored_operand : Operand → Operand
restored_operand (Single x) = Single x
restored_operand (Sum t) = Sum (lowest_sum t)
restored_operand (Quoted t) = Quoted t

-- ---- rows

-- whole numbers in a sum
abbrev pub whole_sum : List (List ℕ × ℤ) → ℤ → Operand
whole_sum ps k = Sum (record { parts = ps; constant = k; over = pos 1 })

-- the first coefficient is negative, so all signs are turned
abbrev pub is_turned : List (Slot × ℤ) → Bool
is_turned [] = false
is_turned (c ∷ cs) = int_lt c.1 (pos 0)

-- the coefficients with the names of their slots; where `turned` is true, all signs are turned
abbrev pub terms_of : Names → Bool → List (Slot × ℤ) → List (List ℕ × ℤ)
terms_of names turned [] = []
terms_of names turned (c ∷ cs) = (names c.0, signed turned c.1) ∷ terms_of names turned cs

-- the terms of a row; one alone with the coefficient 1 is a name
abbrev pub left_of : List (List ℕ × ℤ) → Operand
left_of [] = whole_sum [] (pos 0)
left_of (p ∷ []) = if int_eq p.1 (pos 1) then Single p.0 else whole_sum (p ∷ []) (pos 0)
left_of (p ∷ q ∷ ps) = whole_sum (p ∷ q ∷ ps) (pos 0)

-- the constant with its sign turned
abbrev pub right_of : Bool → ℤ → Operand
right_of turned k = whole_sum [] (neg_ℤ (signed turned k))

-- how the sum of a row is compared; where all signs are turned, the other way round
abbrev pub op_of : Bool → RowOp → CompareOp
op_of turned Zero = Equal
op_of false AtMost = LessEq
op_of true AtMost = GreaterEq
op_of false Below = Less
op_of true Below = Greater

-- a row that has coefficients, compared in this way
abbrev pub row_compared : Names → LinearConstraint → CompareOp → FormAtom
row_compared names r op = compare (left_of (terms_of names (is_turned r.coefs) r.coefs)) op (right_of (is_turned r.coefs) r.constant)

-- the comparison that is read back of a row that has coefficients
abbrev pub row_compare : Names → LinearConstraint → FormAtom
row_compare names r = row_compared names r (op_of (is_turned r.coefs) r.op)

-- the operand 0
abbrev pub zero : Operand
zero = whole_sum [] (pos 0)

-- `0 = 0` or `0 < 0`
abbrev pub constant_compare : Bool → FormAtom
constant_compare true = compare zero Equal zero
constant_compare false = compare zero Less zero

-- ---- comparisons, by the rows of their goals

-- the row is compared; a row without coefficients is `0 = 0` where it is true, else `0 < 0`
abbrev pub stated : Names → LinearConstraint → List (Slot × ℤ) → FormAtom
stated names r [] = constant_compare (is_true_row r)
stated names r (c ∷ cs) = row_compare names r

-- the row of `=` with `!=` in its place; a row without coefficients is `0 < 0` where it is true, else `0 = 0`
abbrev pub denied : Names → LinearConstraint → List (Slot × ℤ) → FormAtom
denied names r [] = constant_compare (not (is_true_row r))
denied names r (c ∷ cs) = row_compared names r NotEqual

-- what is read back of a comparison with this op by its row; that of `!=` is the row of `=`, which is denied
abbrev pub restored_row : Names → CompareOp → LinearConstraint → FormAtom
restored_row names Less r = stated names r r.coefs
restored_row names LessEq r = stated names r r.coefs
restored_row names Equal r = stated names r r.coefs
restored_row names NotEqual r = denied names r r.coefs
restored_row names GreaterEq r = stated names r r.coefs
restored_row names Greater r = stated names r r.coefs

-- a comparison of numbers by its row, and that of texts as it was written
abbrev pub restored_compare : Names → Operand → CompareOp → Operand → Option LinearConstraint → FormAtom
restored_compare names l op r (Some row) = restored_row names op row
restored_compare names l op r None = compare (restored_operand l) op (restored_operand r)
