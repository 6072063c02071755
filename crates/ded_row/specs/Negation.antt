-- The negation of a row, in pieces.
use Rattle.std.specs.Prelude.{ℤ, not, List, [], ◌∷◌}
use Rattle.ded_model.specs.declared.slot.Slot.{Slot}
use Rattle.ded_model.specs.declared.row.RowOp.{RowOp}
use Rattle.ded_model.specs.declared.row.RowOp.TheVariants.{Zero, AtMost, Below}
use Rattle.ded_model.specs.declared.tuple.Negated.{Negated}
use Rattle.ded_model.specs.declared.tuple.Negated.TheVariants.{One, Two}
use Rattle.ded_model.specs.Constraint.{LinearConstraint}
use Rattle.ded_model.specs.Row.{sign_meets}
use Rattle.ded_model.specs.Normal.{constant_row}
use Rattle.ded_row.specs.Multiples.{turned, with_op}

-- of a sum that is 0, the sum below 0 and its negative below 0; of an inequality, the turned one
abbrev pub negated_by : RowOp → LinearConstraint → Negated LinearConstraint
negated_by Zero r = Two (with_op Below r) (with_op Below (turned r))
negated_by AtMost r = One (with_op Below (turned r))
negated_by Below r = One (with_op AtMost (turned r))

-- a row without coefficients gives the true or the false row
abbrev pub negated_with : List (Slot × ℤ) → LinearConstraint → Negated LinearConstraint
negated_with [] r = One (constant_row (not (sign_meets r.op r.constant)))
negated_with (c ∷ cs) r = negated_by r.op r

-- the negation of a row, in pieces
abbrev pub negated_row : LinearConstraint → Negated LinearConstraint
negated_row r = negated_with r.coefs r
