use Rattle.ded_atoms.proofs.own_slots.row_has_own_slot.Given as goal

abbrev pub invariant-loop-entry : goal.invariant-loop-entry
invariant-loop-entry l = Unit {0}
