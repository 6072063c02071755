-- Laws of order rows as the atoms of a theory.
use Rattle.std.specs.Prelude.{◌≡◌, true}
use Rattle.ded_model.specs.declared.slot.Slot.{Slot}
use Rattle.ded_model.specs.Constraint.{LinearConstraint}
use Rattle.ded_model.specs.Row.{row_mentions}
use Rattle.ded_elimination.specs.LinearAtoms.{is_rational}
use Rattle.ded_linear.specs.Laws.{owned_slots}
use Rattle.ded_order.specs.OrderRows.{IsOrderAtom}

-- the sort of each slot that an order row mentions passes the test for rationals
pub order_slots : (r : LinearConstraint) (s : Slot) → IsOrderAtom r → row_mentions r s ≡ true → is_rational s.sort ≡ true
order_slots r s h m = owned_slots r s h.linear m
