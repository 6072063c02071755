use Rattle.std.proofs.Common.{◌≡◌, drop}
use Rattle.ded_model.specs.PlanForm.{plan_forms}
use Rattle.ded_model.specs.Pushed.{some_member}
use Rattle.ded_plan.specs.Rewrite.{comes_apart}
use Rattle.ded_plan.proofs.joining.some_comes_apart.Given as goal

abbrev pub invariant-loop-plan : goal.invariant-loop-plan
invariant-loop-plan l = some_member comes_apart (plan_forms (drop l.plan-index l.plan-items)) ≡ some_member comes_apart (plan_forms l.plan-items)
