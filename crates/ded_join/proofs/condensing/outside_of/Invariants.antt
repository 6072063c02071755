use Rattle.ded_genrel.specs.Lists.{conjs_of}
use Rattle.ded_join.specs.Merged.{AreLeft}
use Rattle.ded_join.proofs.condensing.outside_of.Given as goal

abbrev pub invariant-loop-other : goal.invariant-loop-other
invariant-loop-other g l = AreLeft g.T.Theory.holds g.T.Theory.mentions g.T.Theory.lines l.conj (conjs_of l.yielded) l.left
