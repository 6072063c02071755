use Rattle.ded_model.specs.Cell.{conj_holds}
use Rattle.ded_genrel.specs.Lists.{conjs_of}
use Rattle.ded_eval.specs.Inside.{IsInsidePart}
use Rattle.ded_eval.proofs.across.kept_inside.Given as goal

abbrev pub invariant-loop-conj : goal.invariant-loop-conj
invariant-loop-conj g l = IsInsidePart g.T.Theory.holds g.T.Theory.mentions g.T.Theory.lines (conj_holds g.T.Theory.holds l.across) (conjs_of l.yielded) l.out
