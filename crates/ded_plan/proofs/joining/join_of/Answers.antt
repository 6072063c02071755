use Rattle.std.proofs.Common.{rules, ◌∙◌}
use Rattle.ded_model.specs.declared.plan.Plan.TheFolds.{fold_out-Plan}
use Rattle.ded_model.specs.declared.plan.Plan.TheViews.{the_lemmas}
use Rattle.ded_plan.proofs.PlanLists.{only_member}
use Rattle.ded_plan.proofs.joining.join_of.Goals as goal

pub returns-else-len-eq1 : goal.returns-else-len-eq1
returns-else-len-eq1 c =
    let only = only_member c.args.plans.items (λ e. c.if-len-eq1.false (c.len.ensures ∙ c.args.plans.ok.0 ∙ e)) in
    search (rules, the_lemmas, fold_out-Plan, only)
