use Rattle.ded_genrel.specs.Lists.{conjs_of}
use Rattle.ded_join.specs.Merged.{IsCondensed}
use Rattle.ded_join.proofs.condensing.condensed.Given as goal

abbrev pub invariant-loop-conj : goal.invariant-loop-conj
invariant-loop-conj g l = IsCondensed g.T.Theory.holds g.T.Theory.mentions g.T.Theory.lines (conjs_of l.yielded) l.out
