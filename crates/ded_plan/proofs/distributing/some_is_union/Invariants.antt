use Rattle.std.proofs.Common.{◌≡◌, drop}
use Rattle.ded_model.specs.PlanForm.{plan_forms}
use Rattle.ded_model.specs.Pushed.{is_union, some_member}
use Rattle.ded_plan.proofs.distributing.some_is_union.Given as goal

abbrev pub invariant-loop-plan : goal.invariant-loop-plan
invariant-loop-plan l = some_member is_union (plan_forms (drop l.plan-index l.plan-items)) ≡ some_member is_union (plan_forms l.plan-items)
