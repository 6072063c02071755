use Rattle.ded_model.specs.Cell.{conj_holds}
use Rattle.ded_eval.specs.Within.{IsWindowOf}
use Rattle.ded_eval.proofs.window.columns_window.Given as goal

abbrev pub invariant-loop-atom : goal.invariant-loop-atom
invariant-loop-atom g l = IsWindowOf l.slots (conj_holds g.T.Theory.holds l.window) l.asked
