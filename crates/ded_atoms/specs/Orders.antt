-- Tuples whose rows are all order rows.
use Rattle.std.specs.Prelude.{◌≡◌, Bool, true, ◌&&◌, List, [], ◌∷◌}
use Rattle.ded_model.specs.declared.tuple.BothAtom.TheVariants.{First, Second}
use Rattle.ded_model.specs.Constraint.{LinearConstraint}
use Rattle.ded_model.specs.Row.{Atom}
use Rattle.ded_order.specs.OrderRows.{is_order_row}

-- the row is one
abbrev pub IsOrder : LinearConstraint → Type 0
IsOrder r = is_order_row r ≡ true

-- an order row or a text atom
abbrev pub is_order_atom : Atom → Bool
is_order_atom (First r) = is_order_row r
is_order_atom (Second a) = true

-- each of the atoms is
abbrev pub are_orders : List Atom → Bool
are_orders [] = true
are_orders (a ∷ t) = is_order_atom a && are_orders t

-- each row of the tuple is an order row
abbrev pub AreOrderAtoms : List Atom → Type 0
AreOrderAtoms t = are_orders t ≡ true
