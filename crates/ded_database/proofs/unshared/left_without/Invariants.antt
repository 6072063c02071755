use Rattle.std.proofs.Common.{take}
use Rattle.ded_database.specs.Lost.{AreLeftWithout}
use Rattle.ded_database.proofs.unshared.left_without.Given as goal

abbrev pub invariant-loop-atom : goal.invariant-loop-atom
invariant-loop-atom l = AreLeftWithout l.tuple (take l.atom-index l.atoms) l.left.items
