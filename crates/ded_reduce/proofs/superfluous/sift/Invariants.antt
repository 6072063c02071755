use Rattle.std.proofs.Common.{◌-◌, vec_len}
use Rattle.ded_reduce.proofs.Sifting.{Sifting}
use Rattle.ded_reduce.proofs.superfluous.sift.Given as goal

abbrev pub invariant-loop-index : goal.invariant-loop-index
invariant-loop-index g l = Sifting g.T.Theory.decides g.T.Theory.holds g.T.Theory.mentions g.T.Theory.lines g.T.Theory.normal l.is_open l.fn.conj.items l.conj.items l.index l.removed l.unsure

abbrev pub decreases-loop-index : goal.decreases-loop-index
decreases-loop-index g l = vec_len l.conj - l.index
