use Rattle.std.proofs.Common.{rules, ◌≡◌, true, false, not, refl, ap, ap₂, sym, ◌∙◌}
use Rattle.std.proofs.lemmas.Iterator.Adapters.{YieldsList-from_vec}
use Rattle.std.proofs.lemmas.Iterator.Consumers.{YieldsList-end}
use Rattle.ded_model.specs.declared.plan.Plan as plan
use Rattle.ded_model.specs.declared.plan.Plan.TheFolds.{fold_out-Plan}
use Rattle.ded_model.specs.declared.plan.Plan.TheViews.{the_lemmas}
use Rattle.ded_model.specs.Logic.{every_of, exists, none, also}
use Rattle.ded_model.specs.PlanForm.{plan_form, plan_forms, plan_mentions}
use Rattle.ded_model.specs.Point.{slot}
use Rattle.ded_plan.specs.Rewrite.{appended, inside, outside}
use Rattle.ded_plan.proofs.PlanLists.{appended_none, appended_last, made_one, made_same, made_yielded, filtered_kept, filtered_dropped}
use Rattle.ded_plan.proofs.projecting.projected_apart.Goals as goal

pub loop-plan-preserved-in_ok-push : goal.loop-plan-preserved-in_ok-push
loop-plan-preserved-in_ok-push c =
    let k = slot c.args.at in
    let e : plan_mentions (plan_form c.in-Some.plan) k ≡ true = sym c.if-mentions.ensures in (
      made_one (inside k) c.loop-plan.yielded c.loop-plan.inside.items c.push.new.self.items c.in-Some.plan c.in-Some.plan
          (λ fs. filtered_kept (λ f. plan_mentions f k) (plan_form c.in-Some.plan) fs e) c.in_ok-push.ensures.items c.loop-plan.invariant.0,
      made_same (outside k) c.loop-plan.yielded c.loop-plan.outside.items c.in-Some.plan
          (λ fs. filtered_dropped (λ f. not (plan_mentions f k)) (plan_form c.in-Some.plan) fs (ap not e)) c.loop-plan.invariant.1,
    )

pub loop-plan-preserved : goal.loop-plan-preserved
loop-plan-preserved c =
    let k = slot c.args.at in
    let e : plan_mentions (plan_form c.in-Some.plan) k ≡ false = sym c.if-mentions.ensures in (
      made_same (inside k) c.loop-plan.yielded c.loop-plan.inside.items c.in-Some.plan (λ fs. filtered_dropped (λ f. plan_mentions f k) (plan_form c.in-Some.plan) fs e) c.loop-plan.invariant.0,
      made_one (outside k) c.loop-plan.yielded c.loop-plan.outside.items c.push-else-mentions.new.self.items c.in-Some.plan c.in-Some.plan
          (λ fs. filtered_kept (λ f. not (plan_mentions f k)) (plan_form c.in-Some.plan) fs (ap not e)) c.in_ok-push-2.ensures.items c.loop-plan.invariant.1,
    )

pub returns : goal.returns
returns c =
    let k = slot c.args.at in
    let sort = c.args.at.sort in
    let fs = plan_forms c.args.plans.items in
    let gives = c.into_iter-plan-iterator.ensures.into_iter_gives in
    let all = YieldsList-end (YieldsList-from_vec c.args.plans.items gives.0 (gives.1 ∙ c.args.plans.ok.0)) c.loop-plan.yielded c.loop-plan.plan-iterator c.loop-plan.yielded_by c.next.result c.next.new.self c.in-None.is c.next.ensures.steps in
    let within : plan_forms c.loop-plan.inside.items ≡ inside k fs = made_yielded (inside k) refl c.loop-plan.yielded c.loop-plan.inside.items c.args.plans.items all.0 c.loop-plan.invariant.0 in
    let outer : plan_forms c.loop-plan.outside.items ≡ outside k fs = made_yielded (outside k) refl c.loop-plan.yielded c.loop-plan.outside.items c.args.plans.items all.0 c.loop-plan.invariant.1 in
    let join : plan_form (plan.Join c.loop-plan.inside) ≡ every_of (plan_forms c.loop-plan.inside.items) = search (rules, the_lemmas, fold_out-Plan) in
    let whole : plan_form (plan.Join c.push-2.new.self) ≡ every_of (plan_forms c.push-2.new.self.items) = search (rules, the_lemmas, fold_out-Plan) in
    let last : plan_form c.in_ok-projection_of.field-0 ≡ exists sort k (every_of (inside k fs)) = c.in_ok-projection_of.ensures ∙ ap (exists sort k) (join ∙ ap every_of within) in
    let members : plan_forms c.push-2.new.self.items ≡ appended (outside k fs) (also (exists sort k (every_of (inside k fs))) none) =
    sym (appended_none (plan_forms c.push-2.new.self.items)) ∙ ap (λ ps. appended (plan_forms ps) none) c.in_ok-push-3.ensures.items
    ∙ appended_last c.loop-plan.outside.items c.in_ok-projection_of.field-0 none ∙ ap₂ (λ gs g. appended gs (also g none)) outer last in
    whole ∙ ap every_of members
