use Rattle.std.proofs.Common.{◌≡◌, ◌++◌, take}
use Rattle.ded_model.specs.Lines.{atoms_lines}
use Rattle.ded_model.specs.Renaming.{mapped_lines}
use Rattle.ded_database.proofs.lines.add_lines.Given as goal

abbrev pub invariant-loop-atom : goal.invariant-loop-atom
invariant-loop-atom l = l.lines.items ≡ l.initial.lines.items ++ mapped_lines l.map (atoms_lines (take l.atom-index l.atoms))
