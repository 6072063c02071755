use Rattle.std.proofs.Common.{◌≡◌, drop}
use Rattle.ded_weighing.specs.Columns.{lent, all_vanish}
use Rattle.ded_weighing.proofs.weighing.all_vanish.Given as goal

abbrev pub invariant-loop-slot : goal.invariant-loop-slot
invariant-loop-slot l = all_vanish l.multipliers (lent l.rows) (drop l.slot-index l.slots) ≡ all_vanish l.multipliers (lent l.rows) l.slots
