use Rattle.std.proofs.Common.{◌≡◌, take}
use Rattle.ded_packed.specs.Lent.{lent}
use Rattle.ded_packed.proofs.lent.lend.Given as goal

abbrev pub invariant-loop-tuple : goal.invariant-loop-tuple
invariant-loop-tuple l = lent l.list.items ≡ take l.tuple-index l.tuples
