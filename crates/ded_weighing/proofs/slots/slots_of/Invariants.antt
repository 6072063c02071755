use Rattle.std.proofs.Common.{◌≡◌, [], drop}
use Rattle.ded_weighing.specs.Columns.{lent}
use Rattle.ded_weighing.specs.Gathered.{with_all_slots}
use Rattle.ded_weighing.proofs.slots.slots_of.Given as goal

abbrev pub invariant-loop-row : goal.invariant-loop-row
invariant-loop-row l = with_all_slots l.slots.items (lent (drop l.row-index l.rows)) ≡ with_all_slots [] (lent l.rows)
