use Rattle.std.proofs.Common.{◌≡◌, drop}
use Rattle.ded_model.specs.Logic.{some_atom_of}
use Rattle.ded_model.specs.PlanForm.{plan_forms}
use Rattle.ded_eval.specs.OrderPlans.{has_other_in}
use Rattle.ded_eval.proofs.deciding.+plan_has_other.Given as goal

abbrev pub invariant-some_plan_has_other-loop-plan : goal.invariant-some_plan_has_other-loop-plan
invariant-some_plan_has_other-loop-plan g l =
    some_atom_of (has_other_in (g.R.Relations.catalogue l.relations)) (plan_forms (drop l.plan-index l.plan-items)) ≡ some_atom_of (has_other_in (g.R.Relations.catalogue l.relations)) (plan_forms l.plan-items)
