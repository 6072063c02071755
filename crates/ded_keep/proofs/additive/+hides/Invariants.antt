use Rattle.std.proofs.Common.{◌≡◌, drop}
use Rattle.ded_model.specs.PlanForm.{plan_forms}
use Rattle.ded_keep.specs.Additive.{some_hides}
use Rattle.ded_keep.proofs.additive.+hides.Given as goal

abbrev pub invariant-some_hides-loop-plan : goal.invariant-some_hides-loop-plan
invariant-some_hides-loop-plan l = some_hides l.name (plan_forms (drop l.plan-index l.plans.items)) ≡ some_hides l.name (plan_forms l.plans.items)
