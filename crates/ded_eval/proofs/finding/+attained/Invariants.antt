use Rattle.std.proofs.Common.{take, drop, map}
use Rattle.ded_model.specs.Logic.{AllAtomsOf}
use Rattle.ded_model.specs.PlanForm.{plan_form, plan_forms}
use Rattle.ded_algebra.specs.Evaluation.{IsScannable}
use Rattle.ded_eval.proofs.Attained.{IsJoinedSo}
use Rattle.ded_eval.proofs.finding.+attained.Given as goal

abbrev pub invariant-join_attained-loop-part : goal.invariant-join_attained-loop-part
invariant-join_attained-loop-part g l =
    IsJoinedSo g.T.Theory.holds l.inner.items (g.R.Relations.catalogue l.relations) l.slots (map plan_form l.part-items) l.found (map plan_form (take l.part-index l.part-items))
    × AllAtomsOf (IsScannable g.T.OfTuples.reads (g.R.Relations.catalogue l.relations)) (plan_forms (drop l.part-index l.part-items))
