use Rattle.std.proofs.Common.{sym, subst}
use Rattle.ded_model.specs.PlanForm.{plan_form}
use Rattle.ded_plan.specs.Rewritten.{IsRewritten}
use Rattle.ded_plan.proofs.Rewritten.{is_rewritten}
use Rattle.ded_plan.proofs.rewriting.rewrite.Goals as goal

pub returns : goal.returns
returns c = subst (IsRewritten (plan_form c.args.plan)) (sym c.in_ok-rewritten.ensures.plan) (is_rewritten (plan_form c.args.plan) c.in_ok-rewritten.ensures.tidy)
