-- Rows over other slots.
use Rattle.std.specs.Prelude.{List, []}
use Rattle.ded_model.specs.declared.slot.Slot.{Slot}
use Rattle.ded_model.specs.Constraint.{LinearConstraint}
use Rattle.ded_model.specs.Renaming.{renamed_onto}

-- the row with its coefficients at their new slots
abbrev pub renamed_row : List (Slot × Slot) → LinearConstraint → LinearConstraint
renamed_row map r = record { coefs = renamed_onto map [] r.coefs; constant = r.constant; op = r.op }
