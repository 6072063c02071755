use Rattle.std.proofs.Common.{◌≡◌, take}
use Rattle.ded_model.proofs.tuple.Tuples.copy.Given as goal

abbrev pub invariant-loop-tuple : goal.invariant-loop-tuple
invariant-loop-tuple l = l.list.items ≡ take l.tuple-index l.tuple-items
