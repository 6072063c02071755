use Rattle.std.proofs.Common.{◌≡◌, ◌++◌, take}
use Rattle.ded_genrel.specs.Lists.{conjs_of}
use Rattle.ded_genrel.proofs.list.GenRel.push_copies.Given as goal

abbrev pub invariant-loop-conj : goal.invariant-loop-conj
invariant-loop-conj g l = l.self ≡ l.fn.self ++ conjs_of (take l.conj-index l.conjs)
