use Rattle.std.proofs.lemmas.Result.{IfOk-weaker}
use Rattle.ded_model.specs.Goal.{goal_form}
use Rattle.ded_model.specs.PlanForm.{plan_form}
use Rattle.ded_plan.proofs.Composed.{planned}
use Rattle.ded_plan.proofs.planning.plan.Goals as goal

pub returns : goal.returns
returns c = IfOk-weaker _ _ _ (λ p r. planned (goal_form c.args.goal.now) (plan_form c.in_ok-compile.field-0) (plan_form p) c.in_ok-compile.ensures r) c.rewrite.ensures
