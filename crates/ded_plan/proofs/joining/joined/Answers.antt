use Rattle.std.proofs.Common.{rules, ◌≡◌, true, false, not, IfOk, refl, ap, ap₂, subst, ◌∙◌}
use Rattle.std.proofs.lemmas.Iterator.Adapters.{YieldsList-from_vec}
use Rattle.std.proofs.lemmas.Iterator.Consumers.{YieldsList-end}
use Rattle.ded_model.specs.declared.plan.Plan.TheFolds.{fold-roll-Plan, fold_out-Plan}
use Rattle.ded_model.specs.declared.plan.Plan.TheViews.{the_lemmas}
use Rattle.ded_model.specs.Logic.{negation}
use Rattle.ded_model.specs.PlanForm.{plan_form, plan_forms}
use Rattle.ded_model.specs.Pushed.{is_not}
use Rattle.ded_plan.specs.Rewrite.{kept, taken, join_of, difference_of}
use Rattle.ded_plan.proofs.PlanLists.{made_one, made_same, made_yielded, filtered_kept, filtered_dropped, taken_more, taken_same, joined_whole}
use Rattle.ded_plan.proofs.joining.joined.Goals as goal

pub returns-then-not-some_comes_apart : goal.returns-then-not-some_comes_apart
returns-then-not-some_comes_apart c = c.join_of.ensures ∙ ap join_of c.in_ok-distributed.ensures ∙ joined_whole (plan_forms c.args.plans.items) (search rules)

pub loop-plan-preserved-in_ok-push-in-Not : goal.loop-plan-preserved-in_ok-push-in-Not
loop-plan-preserved-in_ok-push-in-Not c =
    let e : plan_form c.in-Some.plan ≡ negation (plan_form c.into_inner.result) = search (rules, the_lemmas, fold-roll-Plan, fold_out-Plan) in
    let dropped : not (is_not (plan_form c.in-Some.plan)) ≡ false = ap (λ f. not (is_not f)) e in (
      made_same kept c.loop-plan.yielded c.loop-plan.kept.items c.in-Some.plan (λ fs. filtered_dropped (λ f. not (is_not f)) (plan_form c.in-Some.plan) fs dropped) c.loop-plan.invariant.0,
      made_one taken c.loop-plan.yielded c.loop-plan.taken.items c.push.new.self.items c.in-Some.plan c.into_inner.result
          (λ fs. taken_more (plan_form c.in-Some.plan) (plan_form c.into_inner.result) fs e) c.in_ok-push-in-Not.ensures.items c.loop-plan.invariant.1,
    )

pub loop-plan-preserved : goal.loop-plan-preserved
loop-plan-preserved c =
    let e : is_not (plan_form c.in-Some.plan) ≡ false = search (rules, the_lemmas, fold-roll-Plan, fold_out-Plan) in
    let stays : not (is_not (plan_form c.in-Some.plan)) ≡ true = ap not e in (
      made_one kept c.loop-plan.yielded c.loop-plan.kept.items c.push-in_default.new.self.items c.in-Some.plan c.in-Some.plan
          (λ fs. filtered_kept (λ f. not (is_not f)) (plan_form c.in-Some.plan) fs stays) c.in_ok-push-in_default.ensures.items c.loop-plan.invariant.0,
      made_same taken c.loop-plan.yielded c.loop-plan.taken.items c.in-Some.plan (λ fs. taken_same (plan_form c.in-Some.plan) fs e) c.loop-plan.invariant.1,
    )

pub returns : goal.returns
returns c =
    let gives = c.into_iter-plan-iterator.ensures.into_iter_gives in
    let flat = c.in_ok-plan-items.plan-items in
    let all = YieldsList-end (YieldsList-from_vec flat.items gives.0 (gives.1 ∙ flat.ok.0)) c.loop-plan.yielded c.loop-plan.plan-iterator c.loop-plan.yielded_by c.next.result c.next.new.self c.in-None.is c.next.ensures.steps in
    let keeps = made_yielded kept refl c.loop-plan.yielded c.loop-plan.kept.items flat.items all.0 c.loop-plan.invariant.0 ∙ ap kept c.in_ok-plan-items.ensures in
    let takes = made_yielded taken refl c.loop-plan.yielded c.loop-plan.taken.items flat.items all.0 c.loop-plan.invariant.1 ∙ ap taken c.in_ok-plan-items.ensures in
    subst (λ f. IfOk c.difference_of.result (λ p. plan_form p ≡ f)) (ap₂ difference_of keeps takes) c.difference_of.ensures
