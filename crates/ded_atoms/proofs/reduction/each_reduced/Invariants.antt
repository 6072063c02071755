use Rattle.ded_atoms.specs.Kept.{AreReducedParts}
use Rattle.ded_atoms.proofs.reduction.each_reduced.Given as goal

abbrev pub invariant-loop-tuple : goal.invariant-loop-tuple
invariant-loop-tuple l = AreReducedParts l.list.items l.yielded
