use Rattle.std.proofs.Common.{[], take}
use Rattle.ded_model.specs.Lines.{IsSubset, atoms_lines}
use Rattle.ded_database.proofs.shortening.has_row.Given as goal

abbrev pub invariant-loop-atom : goal.invariant-loop-atom
invariant-loop-atom l = IsSubset (atoms_lines (take l.atom-index l.tuple)) []
