use Rattle.std.proofs.Common.{◌≡◌, drop, []}
use Rattle.ded_linear.specs.SlotLists.{with_all_slots}
use Rattle.ded_linear.proofs.order.other_slots.Given as goal

abbrev pub invariant-loop-row : goal.invariant-loop-row
invariant-loop-row l = with_all_slots l.slot l.others.items (drop l.row-index l.rows) ≡ with_all_slots l.slot [] l.rows
