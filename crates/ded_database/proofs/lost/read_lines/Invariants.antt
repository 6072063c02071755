use Rattle.std.proofs.Common.{take}
use Rattle.std.specs.List.{AllByRecursion}
use Rattle.ded_model.specs.Lines.{atoms_lines}
use Rattle.ded_database.specs.Lost.{AreReadAmong}
use Rattle.ded_database.proofs.lost.read_lines.Given as goal

abbrev pub invariant-loop-places : goal.invariant-loop-places
invariant-loop-places l = AllByRecursion (AreReadAmong (atoms_lines l.atoms) l.lines.items) (take l.places-index l.all)
