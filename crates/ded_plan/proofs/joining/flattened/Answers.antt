use Rattle.std.proofs.Common.{rules, ◌≡◌, false, refl, ◌∙◌}
use Rattle.std.proofs.lemmas.Iterator.Adapters.{YieldsList-from_vec}
use Rattle.std.proofs.lemmas.Iterator.Consumers.{YieldsList-end}
use Rattle.ded_model.specs.Logic.{every_of}
use Rattle.ded_model.specs.PlanForm.{plan_form, plan_forms}
use Rattle.ded_model.specs.Pushed.{is_join}
use Rattle.ded_model.specs.declared.plan.Plan.TheFolds.{fold-roll-Plan, fold_out-Plan}
use Rattle.ded_model.specs.declared.plan.Plan.TheViews.{the_lemmas}
use Rattle.ded_plan.specs.Rewrite.{flattened}
use Rattle.ded_plan.proofs.PlanLists.{made_one, made_more, made_yielded, flattened_join, flattened_other}
use Rattle.ded_plan.proofs.joining.flattened.Goals as goal

pub loop-plan-preserved-in-Join : goal.loop-plan-preserved-in-Join
loop-plan-preserved-in-Join c =
    let e : plan_form c.in-Some.plan ≡ every_of (plan_forms c.in-Join.parts.items) = search (rules, the_lemmas, fold-roll-Plan, fold_out-Plan) in
    made_more flattened c.loop-plan.yielded c.loop-plan.members.items c.in_ok-members-in-Join.members.items c.in-Join.parts.items c.in-Some.plan
    (λ fs. flattened_join (plan_form c.in-Some.plan) (plan_forms c.in-Join.parts.items) fs e) c.in_ok-members-in-Join.ensures c.loop-plan.invariant

pub loop-plan-preserved : goal.loop-plan-preserved
loop-plan-preserved c =
    let e : is_join (plan_form c.in-Some.plan) ≡ false = search (rules, the_lemmas, fold-roll-Plan, fold_out-Plan) in
    made_one flattened c.loop-plan.yielded c.loop-plan.members.items c.push.new.self.items c.in-Some.plan c.in-Some.plan
    (λ fs. flattened_other (plan_form c.in-Some.plan) fs e) c.in_ok-push-in_default.ensures.items c.loop-plan.invariant

pub returns : goal.returns
returns c =
    let gives = c.into_iter-plan-iterator.ensures.into_iter_gives in
    let all = YieldsList-end (YieldsList-from_vec c.args.plans.items gives.0 (gives.1 ∙ c.args.plans.ok.0)) c.loop-plan.yielded c.loop-plan.plan-iterator c.loop-plan.yielded_by c.next.result c.next.new.self c.in-None.is c.next.ensures.steps in
    made_yielded flattened refl c.loop-plan.yielded c.loop-plan.members.items c.args.plans.items all.0 c.loop-plan.invariant
