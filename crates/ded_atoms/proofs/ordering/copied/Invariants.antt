use Rattle.std.proofs.Common.{◌≡◌, take}
use Rattle.ded_atoms.proofs.ordering.copied.Given as goal

abbrev pub invariant-loop-atom : goal.invariant-loop-atom
invariant-loop-atom l = l.list.items ≡ take l.atom-index l.atoms
