use Rattle.std.proofs.Common.{drop}
use Rattle.std.specs.List.{AllByRecursion}
use Rattle.ded_atoms.proofs.Reducing.{IsOwnTuple}
use Rattle.ded_atoms.proofs.reduction.all_have_own_slots.Given as goal

abbrev pub invariant-loop-tuple : goal.invariant-loop-tuple
invariant-loop-tuple l = AllByRecursion IsOwnTuple (drop l.tuple-index l.tuples) → AllByRecursion IsOwnTuple l.tuples
