-- The nodes of the parts are counted one part after another.
use Rattle.std.proofs.Common.{◌≡◌, rules, sym, ap, ◌∙◌}
use Rattle.ded_model.specs.declared.plan.Plan.TheFolds.{fold-roll-Plan, fold_out-Plan}
use Rattle.ded_model.specs.declared.plan.Plan.TheViews.{the_lemmas}
use Rattle.ded_model.specs.Logic.{minus}
use Rattle.ded_model.specs.PlanForm.{plan_form}
use Rattle.ded_print.specs.Counts.{raised, raised_by}
use Rattle.ded_print.specs.Nodes.{nodes}
use Rattle.ded_print.proofs.Counts.{raised_both}
use Rattle.ded_print.proofs.Plans.{next_counted}
use Rattle.ded_print.proofs.plan.+nodes.Goals as goal

pub count_nodes-returns-in-Minus : goal.count_nodes-returns-in-Minus
count_nodes-returns-in-Minus t c =
    let e : plan_form c.args.plan.now ≡ minus (plan_form c.deref.result.now) (plan_form c.deref-in-Minus.result.now) = search (rules, the_lemmas, fold-roll-Plan, fold_out-Plan) in
    c.count_nodes-in-Minus.ensures
    ∙ ap (raised_by (nodes (plan_form c.deref-in-Minus.result.now))) (c.count_nodes.ensures ∙ ap (raised_by (nodes (plan_form c.deref.result.now))) c.raise.ensures)
    ∙ sym (raised_both (nodes (plan_form c.deref.result.now)) (nodes (plan_form c.deref-in-Minus.result.now)) (raised 64 c.args.count.now.digits.items))
    ∙ ap (λ f. raised_by (nodes f) c.args.count.now.digits.items) (sym e)

pub count_parts-loop-part-preserved : goal.count_parts-loop-part-preserved
count_parts-loop-part-preserved t c =
    next_counted c.deref-part-items.result.now c.loop-part.part-index c.part-item.result c.loop-part-test.true c.part-item.is _ _ _ c.loop-part.invariant c.count_nodes.ensures
