use Rattle.std.proofs.Common.{◌≡◌, take}
use Rattle.ded_topology.proofs.tuples.conjunctions.Given as goal

abbrev pub invariant-loop-tuple : goal.invariant-loop-tuple
invariant-loop-tuple l = l.list ≡ take l.tuple-index l.tuples
