use Rattle.std.proofs.Common.{◌≡◌, drop}
use Rattle.ded_linear.specs.SlotLists.{with_slots}
use Rattle.ded_linear.proofs.order.add_slots.Given as goal

abbrev pub invariant-loop-next : goal.invariant-loop-next
invariant-loop-next l = with_slots l.slot l.others.items (drop l.next-index l.next-items) ≡ with_slots l.slot l.fn.others.items l.next-items
