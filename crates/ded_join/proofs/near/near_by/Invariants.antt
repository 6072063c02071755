use Rattle.std.proofs.Common.{take}
use Rattle.ded_genrel.specs.Lists.{conjs_of}
use Rattle.ded_join.proofs.Taken.{IsTakenSoFar}
use Rattle.ded_join.proofs.near.near_by.Given as goal

abbrev pub invariant-loop-conj : goal.invariant-loop-conj
invariant-loop-conj g l = IsTakenSoFar g.T.Theory.holds g.T.Theory.mentions g.T.Theory.lines l.taken l.b.slots.now (conjs_of (take l.conj-index l.conj-items)) l.b.list.now l.out l.fn.met l.count
