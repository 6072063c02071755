use Rattle.std.proofs.Common.{◌≡◌, drop}
use Rattle.ded_readback.specs.Reading.{column_slot}
use Rattle.ded_readback.proofs.slot.column_slot.Given as goal

abbrev pub invariant-loop-i : goal.invariant-loop-i
invariant-loop-i l = column_slot l.i (drop l.i l.columns) l.word ≡ column_slot 0 l.columns l.word
