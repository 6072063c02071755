use Rattle.ded_database.proofs.OwnSlots.{AreOwnFirst}
use Rattle.ded_database.proofs.arguments.own_slots.Given as goal

abbrev pub invariant-loop-i : goal.invariant-loop-i
invariant-loop-i l = AreOwnFirst l.columns l.places l.i l.slots.items
