use Rattle.std.proofs.Common.{rules, ◌≡◌, IfOk, refl, ap, sym, subst, ◌∙◌}
use Rattle.std.proofs.lemmas.Iterator.Adapters.{YieldsList-from_vec}
use Rattle.std.proofs.lemmas.Iterator.Consumers.{YieldsList-end}
use Rattle.ded_model.specs.declared.plan.Plan as plan
use Rattle.ded_model.specs.declared.plan.Plan.TheFolds.{fold_out-Plan}
use Rattle.ded_model.specs.declared.plan.Plan.TheViews.{the_lemmas}
use Rattle.ded_model.specs.Logic.{every_of, exists, also}
use Rattle.ded_model.specs.PlanForm.{plan_form, plan_forms}
use Rattle.ded_model.specs.Point.{slot}
use Rattle.ded_plan.specs.Rewrite.{each_projected}
use Rattle.ded_plan.proofs.PlanLists.{made_one, made_yielded}
use Rattle.ded_plan.proofs.InsideLists.{count_forms, all_inside, one_inside, some_inside, none_projected, some_projected}
use Rattle.ded_plan.proofs.projecting.+projected.Goals as goal

pub each_projected-loop-plan-preserved : goal.each_projected-loop-plan-preserved
each_projected-loop-plan-preserved t c =
    made_one (each_projected c.args.at.sort (slot c.args.at)) c.loop-plan.yielded c.loop-plan.parts.items c.push.new.self.items c.in-Some.plan c.in_ok-projected.field-0
    (λ fs. ap (λ g. also g (each_projected c.args.at.sort (slot c.args.at) fs)) (sym c.in_ok-projected.ensures)) c.in_ok-push.ensures.items c.loop-plan.invariant

pub each_projected-returns : goal.each_projected-returns
each_projected-returns t c =
    let gives = c.into_iter-plan-iterator.ensures.into_iter_gives in
    let all = YieldsList-end (YieldsList-from_vec c.args.plans.items gives.0 (gives.1 ∙ c.args.plans.ok.0)) c.loop-plan.yielded c.loop-plan.plan-iterator c.loop-plan.yielded_by c.next.result c.next.new.self c.in-None.is c.next.ensures.steps in
    made_yielded (each_projected c.args.at.sort (slot c.args.at)) refl c.loop-plan.yielded c.loop-plan.parts.items c.args.plans.items all.0 c.loop-plan.invariant

pub projected_join-returns-then-inside-eq0 : goal.projected_join-returns-then-inside-eq0
projected_join-returns-then-inside-eq0 t c =
    let join : plan_form (plan.Join c.args.parts) ≡ every_of (plan_forms c.args.parts.items) = search (rules, the_lemmas, fold_out-Plan) in
    join ∙ none_projected c.args.at.sort (slot c.args.at) (plan_forms c.args.parts.items) c.count_inside-inside.result c.count_inside-inside.ensures c.if-inside-eq0.true

pub projected_join-returns-then-inside-len : goal.projected_join-returns-then-inside-len
projected_join-returns-then-inside-len t c =
    let fs = plan_forms c.args.parts.items in
    let one = each_projected c.args.at.sort (slot c.args.at) fs in
    let some = some_projected c.args.at.sort (slot c.args.at) fs c.count_inside-inside.result c.count_inside-inside.ensures c.if-inside-eq0.false in
    let len = c.len.ensures ∙ c.args.parts.ok.0 ∙ sym (count_forms c.args.parts.items) in
    let e = all_inside c.args.at.sort (slot c.args.at) fs one c.count_inside-inside.result c.len.result c.count_inside-inside.ensures len c.if-inside-len.true in
    let join : plan_form (plan.Join c.args.parts) ≡ every_of fs = search (rules, the_lemmas, fold_out-Plan) in
    subst (λ f. IfOk c.projection_of.result (λ p. plan_form p ≡ f)) (ap (exists c.args.at.sort (slot c.args.at)) join ∙ e ∙ some) c.projection_of.ensures

pub projected_join-returns-in_ok-each_projected : goal.projected_join-returns-in_ok-each_projected
projected_join-returns-in_ok-each_projected t c =
    let fs = plan_forms c.args.parts.items in
    let one = each_projected c.args.at.sort (slot c.args.at) fs in
    let some = some_projected c.args.at.sort (slot c.args.at) fs c.count_inside-inside.result c.count_inside-inside.ensures c.if-inside-eq0.false in
    let len = c.len.ensures ∙ c.args.parts.ok.0 ∙ sym (count_forms c.args.parts.items) in
    let e = one_inside c.args.at.sort (slot c.args.at) fs one c.count_inside-inside.result c.len.result c.count_inside-inside.ensures len c.if-inside-len.false c.if-inside-eq1.true in
    let join : plan_form (plan.Join c.in_ok-each_projected.field-0) ≡ every_of (plan_forms c.in_ok-each_projected.field-0.items) = search (rules, the_lemmas, fold_out-Plan) in
    join ∙ ap every_of c.in_ok-each_projected.ensures ∙ e ∙ some

pub projected_join-returns-else-inside-eq1 : goal.projected_join-returns-else-inside-eq1
projected_join-returns-else-inside-eq1 t c =
    let fs = plan_forms c.args.parts.items in
    let one = each_projected c.args.at.sort (slot c.args.at) fs in
    let some = some_projected c.args.at.sort (slot c.args.at) fs c.count_inside-inside.result c.count_inside-inside.ensures c.if-inside-eq0.false in
    let len = c.len.ensures ∙ c.args.parts.ok.0 ∙ sym (count_forms c.args.parts.items) in
    let e = some_inside c.args.at.sort (slot c.args.at) fs one c.count_inside-inside.result c.len.result c.count_inside-inside.ensures len c.if-inside-len.false c.if-inside-eq1.false in
    subst (λ f. IfOk c.projected_apart.result (λ p. plan_form p ≡ f)) (e ∙ some) c.projected_apart.ensures
