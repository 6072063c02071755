use Rattle.std.proofs.Common.{[], take}
use Rattle.ded_model.specs.Lines.{IsSubset, tuples_lines}
use Rattle.ded_database.proofs.shortening.has_rows.Given as goal

abbrev pub invariant-loop-tuple : goal.invariant-loop-tuple
invariant-loop-tuple l = IsSubset (tuples_lines (take l.tuple-index l.tuples)) []
