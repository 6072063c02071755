-- Conjunctions with their strict rows made weak, but for a row without coefficients, which no point satisfies where it is strict.
use Rattle.std.specs.Prelude.{ℤ, List, [], ◌∷◌, map}
use Rattle.ded_model.specs.declared.slot.Slot.{Slot}
use Rattle.ded_model.specs.declared.row.RowOp.{RowOp}
use Rattle.ded_model.specs.declared.tuple.BothAtom.TheVariants.{First, Second}
use Rattle.ded_model.specs.Constraint.{LinearConstraint}
use Rattle.ded_model.specs.Near.{weak_op}
use Rattle.ded_model.specs.Row.{Atom}

-- the op made weak, but for a row without coefficients, which keeps its own
abbrev pub weakened_op : RowOp → List (Slot × ℤ) → RowOp
weakened_op op [] = op
weakened_op op (c ∷ cs) = weak_op op

-- the row made weak where it has coefficients
abbrev pub weakened_row : LinearConstraint → LinearConstraint
weakened_row r = record { coefs = r.coefs; constant = r.constant; op = weakened_op r.op r.coefs }

-- a row made weak where it has coefficients, or a text atom as it is
abbrev pub weakened_atom : Atom → Atom
weakened_atom (First r) = First (weakened_row r)
weakened_atom (Second a) = Second a

-- the atoms, with each row that has coefficients made weak
abbrev pub weakened : List Atom → List Atom
weakened atoms = map weakened_atom atoms
