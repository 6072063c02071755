use Rattle.std.proofs.Common.{◌≡◌, ◌++◌}
use Rattle.ded_genrel.specs.Lists.{conjs_of}
use Rattle.ded_genrel.proofs.list.GenRel.append.Given as goal

abbrev pub invariant-loop-conj : goal.invariant-loop-conj
invariant-loop-conj g l = l.self ≡ l.fn.self ++ conjs_of l.yielded
