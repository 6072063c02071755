use Rattle.std.proofs.Common.{◌≡◌, ◌≤◌, drop}
use Rattle.std.specs.List.{list_all}
use Rattle.ded_model.specs.Width.{tuple_length}
use Rattle.ded_readback.specs.Over.{atom_over}
use Rattle.ded_readback.proofs.over.are_atoms_over.Given as goal

abbrev pub invariant-loop-atom : goal.invariant-loop-atom
invariant-loop-atom l = record {
  same : list_all (atom_over l.columns) (drop l.atom-index l.atoms) ≡ list_all (atom_over l.columns) l.atoms;
  short : tuple_length (drop l.atom-index l.atoms) ≤ 127 → tuple_length l.atoms ≤ 127;
}
