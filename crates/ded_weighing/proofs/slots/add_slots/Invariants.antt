use Rattle.std.proofs.Common.{◌≡◌, drop}
use Rattle.ded_weighing.specs.Gathered.{with_slots}
use Rattle.ded_weighing.proofs.slots.add_slots.Given as goal

abbrev pub invariant-loop-slot : goal.invariant-loop-slot
invariant-loop-slot l = with_slots l.slots.items (drop l.slot-index l.coefs) ≡ with_slots l.initial.slots.items l.coefs
