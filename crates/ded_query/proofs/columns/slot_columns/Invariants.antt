use Rattle.std.proofs.Common.{◌≡◌, ◌++◌, drop}
use Rattle.ded_query.specs.Columns.{slot_columns}
use Rattle.ded_query.proofs.columns.slot_columns.Given as goal

abbrev pub invariant-loop-slot : goal.invariant-loop-slot
invariant-loop-slot l = l.pairs.items ++ slot_columns l.number (drop l.slot-index l.slots) ≡ slot_columns 0 l.slots
