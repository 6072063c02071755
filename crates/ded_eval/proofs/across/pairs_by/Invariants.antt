use Rattle.std.proofs.Common.{take}
use Rattle.ded_model.specs.Cell.{conj_holds}
use Rattle.ded_genrel.specs.Lists.{conjs_of}
use Rattle.ded_eval.specs.Inside.{IsMeetInside}
use Rattle.ded_eval.proofs.across.pairs_by.Given as goal

abbrev pub invariant-loop-conj : goal.invariant-loop-conj
invariant-loop-conj g l =
    IsMeetInside g.T.Theory.holds g.T.Theory.mentions g.T.Theory.lines (conj_holds g.T.Theory.holds l.step.across.now) (conjs_of (take l.conj-index l.conj-items)) l.next l.out
