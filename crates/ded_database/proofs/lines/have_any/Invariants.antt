use Rattle.std.proofs.Common.{take}
use Rattle.ded_model.specs.Lines.{tuples_lines}
use Rattle.ded_database.specs.Lost.{AreApartLines}
use Rattle.ded_database.proofs.lines.have_any.Given as goal

abbrev pub invariant-loop-tuple : goal.invariant-loop-tuple
invariant-loop-tuple l = AreApartLines (tuples_lines (take l.tuple-index l.tuples)) l.lines
