use Rattle.std.proofs.Common.{rules, ◌≡◌, true, false, not, IfOk, refl, ap, subst, sym, ◌∙◌}
use Rattle.std.proofs.lemmas.Iterator.Adapters.{YieldsList-from_vec}
use Rattle.std.proofs.lemmas.Iterator.Consumers.{YieldsList-end}
use Rattle.ded_model.specs.declared.plan.Plan.TheFolds.{fold-roll-Plan, fold_out-Plan}
use Rattle.ded_model.specs.declared.plan.Plan.TheViews.{the_lemmas}
use Rattle.ded_model.specs.Logic.{atom}
use Rattle.ded_model.specs.PlanForm.{rows, plan_form, plan_forms}
use Rattle.ded_model.specs.Pushed.{is_rows}
use Rattle.ded_plan.specs.Rewrite.{no_rows_of, rows_of, also_all_rows}
use Rattle.ded_plan.proofs.PlanLists.{made_one, made_same, made_yielded, filtered_kept, filtered_dropped, map-id}
use Rattle.ded_plan.proofs.RowLists.{rows_more, rows_still, distributed_moves}
use Rattle.ded_plan.proofs.distributing.distributed.Goals as goal

pub loop-plan-preserved-in-Continue-branch-2 : goal.loop-plan-preserved-in-Continue-branch-2
loop-plan-preserved-in-Continue-branch-2 c =
    let e : plan_form c.in-Some.plan ≡ atom (rows c.in-Rows.tuple) = search (rules, the_lemmas, fold-roll-Plan, fold_out-Plan) in
    let dropped : not (is_rows (plan_form c.in-Some.plan)) ≡ false = ap (λ f. not (is_rows f)) e in (
      made_same no_rows_of c.loop-plan.yielded c.loop-plan.members.items c.in-Some.plan (λ fs. filtered_dropped (λ f. not (is_rows f)) (plan_form c.in-Some.plan) fs dropped) c.loop-plan.invariant.0,
      rows_more c.loop-plan.tuples.items c.push.new.self.items c.loop-plan.yielded c.in-Some.plan c.in-Rows.tuple e c.in_ok-push-in-Rows.ensures.items c.loop-plan.invariant.1,
    )

pub loop-plan-preserved : goal.loop-plan-preserved
loop-plan-preserved c =
    let e : is_rows (plan_form c.in-Some.plan) ≡ false = search (rules, the_lemmas, fold-roll-Plan, fold_out-Plan) in
    let kept : not (is_rows (plan_form c.in-Some.plan)) ≡ true = ap not e in (
      made_one no_rows_of c.loop-plan.yielded c.loop-plan.members.items c.push-in_default.new.self.items c.in-Some.plan c.in-Some.plan
          (λ fs. filtered_kept (λ f. not (is_rows f)) (plan_form c.in-Some.plan) fs kept) c.in_ok-push-in_default.ensures.items c.loop-plan.invariant.0,
      rows_still c.loop-plan.tuples.items c.loop-plan.yielded c.in-Some.plan e c.loop-plan.invariant.1,
    )

pub returns : goal.returns
returns c =
    let gives = c.into_iter-plan-iterator.ensures.into_iter_gives in
    let all = YieldsList-end (YieldsList-from_vec c.args.plans.items gives.0 (gives.1 ∙ c.args.plans.ok.0)) c.loop-plan.yielded c.loop-plan.plan-iterator c.loop-plan.yielded_by c.next.result c.next.new.self c.in-None.is c.next.ensures.steps in
    let members = made_yielded no_rows_of refl c.loop-plan.yielded c.loop-plan.members.items c.args.plans.items all.0 c.loop-plan.invariant.0 in
    let tuples = c.deref.ensures.value ∙ c.loop-plan.invariant.1 ∙ ap (λ ps. rows_of (plan_forms ps)) (sym (map-id c.loop-plan.yielded) ∙ all.0) in
    let moved = distributed_moves (plan_forms c.args.plans.items) (search rules) (search rules) in
    subst (λ fs. IfOk c.also_all_rows.result (λ ps. plan_forms ps.items ≡ fs)) (ap (λ ts. also_all_rows ts (plan_forms c.loop-plan.members.items)) tuples ∙ ap (also_all_rows (rows_of (plan_forms c.args.plans.items))) members ∙ moved) c.also_all_rows.ensures
