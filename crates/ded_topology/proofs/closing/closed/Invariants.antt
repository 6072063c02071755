use Rattle.std.proofs.Common.{take}
use Rattle.ded_genrel.specs.Lists.{conjs_of}
use Rattle.ded_topology.specs.Closing.{IsClosed}
use Rattle.ded_topology.proofs.closing.closed.Given as goal

abbrev pub invariant-loop-conj : goal.invariant-loop-conj
invariant-loop-conj l = IsClosed (conjs_of (take l.conj-index l.conj-items)) l.out
