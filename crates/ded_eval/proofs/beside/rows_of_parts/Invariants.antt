use Rattle.std.proofs.Common.{take, map}
use Rattle.std.specs.List.{AllByRecursion}
use Rattle.ded_model.specs.PlanForm.{plan_form}
use Rattle.ded_eval.specs.Within.{AreRowsOf}
use Rattle.ded_eval.proofs.beside.rows_of_parts.Given as goal

abbrev pub invariant-loop-part : goal.invariant-loop-part
invariant-loop-part g l =
    AreRowsOf g.T.Theory.holds g.T.Theory.mentions g.T.Theory.lines (map plan_form (take l.part-index l.part-items)) l.atoms.items × AllByRecursion g.T.Theory.normal l.atoms.items
