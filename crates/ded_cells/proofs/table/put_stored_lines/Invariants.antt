-- A line was written for each of the first tuples.
use Rattle.std.proofs.Common.{take}
use Rattle.ded_cells.specs.Tables.{IsStoredLine}
use Rattle.ded_cells.specs.Writing.{WritesLines}
use Rattle.ded_cells.proofs.table.put_stored_lines.Given as goal

abbrev pub invariant-loop-numbered : goal.invariant-loop-numbered
invariant-loop-numbered l = WritesLines (IsStoredLine l.heading) l.fn.text l.text (take l.numbered-index l.stored)
