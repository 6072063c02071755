use Rattle.std.proofs.Common.{rules, ◌≡◌, ap, ap₂, ◌∙◌}
use Rattle.ded_model.specs.declared.plan.Plan as plan
use Rattle.ded_model.specs.declared.plan.Plan.TheFolds.{fold_out-Plan}
use Rattle.ded_model.specs.declared.plan.Plan.TheViews.{the_lemmas}
use Rattle.ded_model.specs.Logic.{minus}
use Rattle.ded_model.specs.PlanForm.{plan_form}
use Rattle.ded_plan.proofs.joining.minus_of.Goals as goal

pub returns : goal.returns
returns c =
    let parts : plan_form (plan.Minus c.in_ok-new.field-0 c.in_ok-new-2.field-0) ≡ minus (plan_form c.in_ok-new.field-0.value) (plan_form c.in_ok-new-2.field-0.value) = search (rules, the_lemmas, fold_out-Plan) in
    parts ∙ ap₂ minus (ap plan_form c.in_ok-new.ensures.ok) (ap plan_form c.in_ok-new-2.ensures.ok)
