use Rattle.std.proofs.Common.{take}
use Rattle.ded_model.specs.Lines.{atoms_lines}
use Rattle.ded_database.specs.Lost.{AreApartLines}
use Rattle.ded_database.proofs.lines.has_any.Given as goal

abbrev pub invariant-loop-atom : goal.invariant-loop-atom
invariant-loop-atom l = AreApartLines (atoms_lines (take l.atom-index l.tuple)) l.lines
