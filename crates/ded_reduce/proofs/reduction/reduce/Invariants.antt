use Rattle.std.proofs.Common.{length}
use Rattle.ded_reduce.proofs.Sifting.{Reducing}
use Rattle.ded_reduce.proofs.reduction.reduce.Given as goal

abbrev pub invariant-loop-left : goal.invariant-loop-left
invariant-loop-left g l = Reducing g.T.Theory.decides g.T.Theory.holds g.T.Theory.mentions g.T.Theory.lines g.T.Theory.normal l.conj l.left.items

abbrev pub decreases-loop-left : goal.decreases-loop-left
decreases-loop-left g l = length l.left.items
