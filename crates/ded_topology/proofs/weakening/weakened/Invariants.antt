use Rattle.std.proofs.Common.{◌≡◌, take}
use Rattle.ded_topology.specs.Weakening.{weakened}
use Rattle.ded_topology.proofs.weakening.weakened.Given as goal

abbrev pub invariant-loop-atom : goal.invariant-loop-atom
invariant-loop-atom l = l.out.items ≡ weakened (take l.atom-index l.atoms)
