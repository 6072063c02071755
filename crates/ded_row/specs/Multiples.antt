-- Multiples of rows.
use Rattle.std.specs.Prelude.{ℤ, ◌*ℤ◌, List, map}
use lib.IntN.{neg_ℤ}
use Rattle.ded_model.specs.declared.slot.Slot.{Slot}
use Rattle.ded_model.specs.declared.row.RowOp.{RowOp}
use Rattle.ded_model.specs.Constraint.{LinearConstraint}

-- the coefficients, each multiplied by k
abbrev pub coefs_times : ℤ → List (Slot × ℤ) → List (Slot × ℤ)
coefs_times k cs = map (λ c. (c.0, k *ℤ c.1)) cs

-- the row with all numbers multiplied
abbrev pub row_times : ℤ → LinearConstraint → LinearConstraint
row_times k r = record { coefs = coefs_times k r.coefs; constant = k *ℤ r.constant; op = r.op }

-- the row with another op
abbrev pub with_op : RowOp → LinearConstraint → LinearConstraint
with_op op r = record { coefs = r.coefs; constant = r.constant; op = op }

-- the row with all signs turned
abbrev pub turned : LinearConstraint → LinearConstraint
turned r = record { coefs = map (λ c. (c.0, neg_ℤ c.1)) r.coefs; constant = neg_ℤ r.constant; op = r.op }
