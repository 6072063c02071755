use Rattle.std.proofs.Common.{rules, ◌≡◌, ◌+◌, drop, subst, sym}
use Rattle.std.proofs.Math.ListN.{drop_of_length-le}
use Rattle.std.proofs.lemmas.Result.{on_ok_weaker}
use Rattle.ded_model.specs.declared.plan.Plan.TheFolds.{fold_out-Plan}
use Rattle.ded_model.specs.declared.plan.Plan.TheViews.{the_lemmas}
use Rattle.ded_model.specs.Logic.{negation, every_of, some_of, minus, exists}
use Rattle.ded_model.specs.PlanForm.{plan_form, plan_forms}
use Rattle.ded_model.specs.Point.{slot}
use Rattle.ded_plan.specs.Scans.{AddsScans, AddsEach}
use Rattle.ded_plan.proofs.AddedScans.{next_of, each_none, each_also, adds_every, adds_some, adds_minus, adds_negation, adds_exists}
use Rattle.ded_plan.proofs.scans.+add_scans.Goals as goal

pub add_each-loop-plan-init : goal.add_each-loop-plan-init
add_each-loop-plan-init t c = λ new a. a

pub add_each-loop-plan-preserved : goal.add_each-loop-plan-preserved
add_each-loop-plan-preserved t c =
    let all = c.deref-plan-items.result.now in
    let rest = drop (c.loop-plan.plan-index + 1) all in
    let next = next_of all c.loop-plan.plan-index c.plan-item.result c.loop-plan-test.true c.plan-item.is in
    λ new a. c.loop-plan.invariant new (subst (λ ps. AddsEach (plan_forms ps) c.args.within.now c.loop-plan.scans.items new) (sym next)
    (each_also (plan_form c.plan-item.result) (plan_forms rest) c.args.within.now c.loop-plan.scans.items c.add_scans.new.scans.items new c.in_ok-add_scans.ensures a))

pub add_each-returns : goal.add_each-returns
add_each-returns t c =
    let all = c.deref-plan-items.result.now in
    let scans = c.loop-plan.scans.items in
    let rest = drop_of_length-le all c.loop-plan-test.false in
    subst (λ ps. AddsEach (plan_forms ps) c.args.within.now c.args.scans.now.items scans) c.deref-plan-items.ensures.value
    (c.loop-plan.invariant scans (subst (λ ps. AddsEach (plan_forms ps) c.args.within.now scans scans) (sym rest) (each_none c.args.within.now scans)))

pub add_scans-returns-in_ok-inner-in-Join : goal.add_scans-returns-in_ok-inner-in-Join
add_scans-returns-in_ok-inner-in-Join t c =
    let old = c.args.scans.now.items in
    let new = c.add_each.new.scans.items in
    let parts = plan_forms c.in-Join.parts.items in
    let e : plan_form c.args.plan.now ≡ every_of parts = search (rules, the_lemmas, fold_out-Plan) in
    on_ok_weaker c.add_each.result
    (λ a. subst (λ f. AddsScans f c.args.within.now old new) (sym e) (adds_every parts c.args.within.now c.in_ok-inner-in-Join.inner old new c.in_ok-inner-in-Join.ensures a)) c.add_each.ensures

pub add_scans-returns-in-Union : goal.add_scans-returns-in-Union
add_scans-returns-in-Union t c =
    let old = c.args.scans.now.items in
    let new = c.add_each-in-Union.new.scans.items in
    let parts = plan_forms c.in-Union.parts.items in
    let e : plan_form c.args.plan.now ≡ some_of parts = search (rules, the_lemmas, fold_out-Plan) in
    on_ok_weaker c.add_each-in-Union.result
    (λ a. subst (λ f. AddsScans f c.args.within.now old new) (sym e) (adds_some parts c.args.within.now old new a)) c.add_each-in-Union.ensures

pub add_scans-returns-in_ok-add_scans-in-Minus : goal.add_scans-returns-in_ok-add_scans-in-Minus
add_scans-returns-in_ok-add_scans-in-Minus t c =
    let old = c.args.scans.now.items in
    let mid = c.add_scans.new.scans.items in
    let new = c.add_scans-in-Minus.new.scans.items in
    let from = plan_form c.deref.result.now in
    let taken = plan_form c.deref-in-Minus.result.now in
    let e : plan_form c.args.plan.now ≡ minus from taken = search (rules, the_lemmas, fold_out-Plan) in
    on_ok_weaker c.add_scans-in-Minus.result
    (λ a. subst (λ f. AddsScans f c.args.within.now old new) (sym e) (adds_minus from taken c.args.within.now old mid new c.in_ok-add_scans-in-Minus.ensures a)) c.add_scans-in-Minus.ensures

pub add_scans-returns-in-Not : goal.add_scans-returns-in-Not
add_scans-returns-in-Not t c =
    let old = c.args.scans.now.items in
    let new = c.add_scans-in-Not.new.scans.items in
    let part = plan_form c.deref-in-Not.result.now in
    let e : plan_form c.args.plan.now ≡ negation part = search (rules, the_lemmas, fold_out-Plan) in
    on_ok_weaker c.add_scans-in-Not.result
    (λ a. subst (λ f. AddsScans f c.args.within.now old new) (sym e) (adds_negation part c.args.within.now old new a)) c.add_scans-in-Not.ensures

pub add_scans-returns-in_ok-inner-in-Project : goal.add_scans-returns-in_ok-inner-in-Project
add_scans-returns-in_ok-inner-in-Project t c =
    let old = c.args.scans.now.items in
    let new = c.add_scans-in-Project.new.scans.items in
    let at = c.in-Project.slot in
    let part = plan_form c.deref-in-Project.result.now in
    let inner = c.in_ok-inner-in-Project.inner in
    let e : plan_form c.args.plan.now ≡ exists at.sort (slot at) part = search (rules, the_lemmas, fold_out-Plan) in
    on_ok_weaker c.add_scans-in-Project.result
    (λ a. subst (λ f. AddsScans f c.args.within.now old new) (sym e)
    (adds_exists at.sort at part c.args.within.now inner old new c.in_ok-inner-in-Project.ensures.holds c.in_ok-inner-in-Project.ensures.slot a)) c.add_scans-in-Project.ensures
