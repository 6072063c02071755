use Rattle.std.proofs.Common.{◌≡◌, take}
use Rattle.ded_packed.specs.Lent.{lent}
use Rattle.ded_query.proofs.made.copied.Given as goal

abbrev pub invariant-loop-tuple : goal.invariant-loop-tuple
invariant-loop-tuple l = l.list.items ≡ lent (take l.tuple-index l.tuples)
