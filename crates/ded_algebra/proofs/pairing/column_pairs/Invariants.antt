use Rattle.std.proofs.Common.{◌≡◌, ◌++◌, drop}
use Rattle.ded_algebra.specs.Columns.{column_pairs}
use Rattle.ded_algebra.proofs.pairing.column_pairs.Given as goal

abbrev pub invariant-loop-slot : goal.invariant-loop-slot
invariant-loop-slot l = l.pairs.items ++ column_pairs l.number (drop l.slot-index l.slots) ≡ column_pairs 0 l.slots
