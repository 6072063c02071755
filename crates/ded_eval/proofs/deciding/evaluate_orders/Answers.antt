use Rattle.std.proofs.Common.{[], sym, ◌∙◌, subst}
use Rattle.ded_model.specs.Lines.{row_lines}
use Rattle.ded_model.specs.PlanForm.{plan_form}
use Rattle.ded_model.specs.Row.{row_holds, theme_holds, row_mentions, theme_mentions}
use Rattle.ded_theory.specs.Both.{by_kind}
use Rattle.ded_genrel.specs.Lists.{conjs_hold, conjs_mention, conjs_lines}
use Rattle.ded_algebra.specs.Evaluation.{IsEvaluation}
use Rattle.ded_eval.proofs.OrderPlans.{evaluable_orders, orders_alone, others_beside}
use Rattle.ded_eval.proofs.deciding.evaluate_orders.Goals as goal

pub returns-then-branch-clause-orders : goal.returns-then-branch-clause-orders
returns-then-branch-clause-orders g c = λ k e. others_beside (g.R.Relations.catalogue c.args.relations.now) (plan_form c.args.plan.now) (sym c.in_ok-plan_has_other.ensures ∙ c.if-branch.true) k

pub evaluate_counted-requires : goal.evaluate_counted-requires
evaluate_counted-requires g c =
    let cat = g.R.Relations.catalogue c.args.relations.now in
    evaluable_orders cat (plan_form c.args.plan.now) (orders_alone cat (plan_form c.args.plan.now) c.requires (sym c.in_ok-plan_has_other.ensures ∙ c.if-branch.false))

pub returns-clause-is : goal.returns-clause-is
returns-clause-is g c =
    subst (λ xs. IsEvaluation (g.R.Relations.catalogue c.args.relations.now) (plan_form c.args.plan.now) (conjs_hold (by_kind row_holds theme_holds) xs) (conjs_mention (by_kind row_mentions theme_mentions) xs) (conjs_lines (by_kind row_lines (λ a. [])) xs))
    (sym c.in_ok-as_rows.ensures) c.in_ok-list.ensures.is
