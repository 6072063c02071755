-- A line was written for each of the first tuples.
use Rattle.std.proofs.Common.{take}
use Rattle.ded_cells.specs.Tables.{IsAnswerLine}
use Rattle.ded_cells.specs.Writing.{WritesLines}
use Rattle.ded_cells.proofs.table.put_lines.Given as goal

abbrev pub invariant-loop-tuple : goal.invariant-loop-tuple
invariant-loop-tuple l = WritesLines (IsAnswerLine l.heading) l.fn.text l.text (take l.tuple-index l.tuples)
