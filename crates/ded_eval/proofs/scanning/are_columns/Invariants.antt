use Rattle.std.proofs.Common.{◌≡◌, drop}
use Rattle.ded_model.specs.declared.slot.Slot.{Slot}
use Rattle.ded_model.specs.Renaming.{renamed}
use Rattle.ded_algebra.specs.Columns.{column_pairs}
use Rattle.ded_eval.proofs.scanning.are_columns.Given as goal

abbrev pub invariant-loop-slot : goal.invariant-loop-slot
invariant-loop-slot l = ((t : Slot) → renamed (column_pairs l.number (drop l.slot-index l.slots)) t ≡ t) → (t : Slot) → renamed (column_pairs 0 l.slots) t ≡ t
