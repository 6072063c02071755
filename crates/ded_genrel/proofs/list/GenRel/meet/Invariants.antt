use Rattle.std.proofs.Common.{◌≡◌, take}
use Rattle.ded_genrel.specs.Lists.{conjs_of, pairs}
use Rattle.ded_genrel.proofs.list.GenRel.meet.Given as goal

abbrev pub invariant-loop-conj : goal.invariant-loop-conj
invariant-loop-conj g l = l.out ≡ pairs (conjs_of (take l.conj-index l.conj-items)) l.other
