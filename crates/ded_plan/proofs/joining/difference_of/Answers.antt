use Rattle.std.proofs.Common.{◌≡◌, IfOk, ap, ap₂, subst, ◌∙◌}
use Rattle.ded_model.specs.Logic.{minus}
use Rattle.ded_model.specs.PlanForm.{plan_form, plan_forms}
use Rattle.ded_plan.specs.Rewrite.{join_of, negated, distributed}
use Rattle.ded_plan.proofs.PlanLists.{taken_from_none, taken_from_some}
use Rattle.ded_plan.proofs.joining.difference_of.Goals as goal

pub returns-then-is_empty-2 : goal.returns-then-is_empty-2
returns-then-is_empty-2 c =
    let e = taken_from_none c.args.kept.items c.args.taken.items _ _ c.args.kept.ok.0 c.args.taken.ok.0 c.if-is_empty-2.ensures c.if-is_empty.ensures in
    subst (λ f. IfOk c.negated.result (λ p. plan_form p ≡ f)) (ap negated c.union_of.ensures ∙ e) c.negated.ensures

pub returns : goal.returns
returns c =
    let e = taken_from_some c.args.kept.items c.args.taken.items _ _ c.args.kept.ok.0 c.args.taken.ok.0 c.if-is_empty-2.ensures c.if-is_empty.ensures in
    let from : plan_form c.join_of-from.result ≡ join_of (distributed (plan_forms c.args.kept.items)) = c.join_of-from.ensures ∙ ap join_of c.in_ok-distributed-2.ensures in
    subst (λ f. IfOk c.minus_of.result (λ p. plan_form p ≡ f)) (ap₂ minus from c.union_of-2.ensures ∙ e) c.minus_of.ensures
