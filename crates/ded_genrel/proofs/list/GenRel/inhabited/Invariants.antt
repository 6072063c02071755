use Rattle.ded_genrel.specs.Lists.{conjs_of}
use Rattle.ded_genrel.specs.Operations.{IsInhabitedPart}
use Rattle.ded_genrel.proofs.list.GenRel.inhabited.Given as goal

abbrev pub invariant-loop-conj : goal.invariant-loop-conj
invariant-loop-conj g l = IsInhabitedPart g.T.Theory.holds g.T.Theory.mentions g.T.Theory.lines (conjs_of l.yielded) l.out
