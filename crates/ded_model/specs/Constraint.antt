-- What a row is seen as.
use Rattle.std.specs.Prelude.{ℤ, List}
use Rattle.ded_model.specs.declared.slot.Slot.{Slot}
use Rattle.ded_model.specs.declared.row.RowOp.{RowOp}

-- a linear constraint: the sum of the coefficients times the values of their slots, plus the constant, compared with 0
pub record LinearConstraint : Type 0 where
  pub coefs : List (Slot × ℤ)
  pub constant : ℤ
  pub op : RowOp

-- the coefficients of a row, each with its slot
abbrev pub row_coefs : LinearConstraint → List (Slot × ℤ)
row_coefs r = r.coefs

-- the constant of a row
abbrev pub row_constant : LinearConstraint → ℤ
row_constant r = r.constant

-- how the sum of a row is compared with 0
abbrev pub row_op : LinearConstraint → RowOp
row_op r = r.op

-- the slot of a coefficient
abbrev pub coef_slot : Slot × ℤ → Slot
coef_slot c = c.0

-- the number of a coefficient
abbrev pub coef_number : Slot × ℤ → ℤ
coef_number c = c.1
