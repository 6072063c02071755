use Rattle.std.proofs.Common.{rules, ◌≡◌, true, false, ◌⊎◌, inl, inr, refl, sym, ap, ◌∙◌}
use Rattle.std.proofs.lemmas.Iterator.Adapters.{YieldsList-from_vec}
use Rattle.std.proofs.lemmas.Iterator.Consumers.{YieldsList-end}
use Rattle.ded_model.specs.declared.plan.Plan as plan
use Rattle.ded_model.specs.declared.plan.Plan.TheFolds.{fold-roll-Plan, fold_out-Plan}
use Rattle.ded_model.specs.declared.plan.Plan.TheViews.{the_lemmas}
use Rattle.ded_model.specs.Logic.{atom, also}
use Rattle.ded_model.specs.PlanForm.{rows, plan_form, plan_forms}
use Rattle.ded_model.specs.Pushed.{is_union}
use Rattle.ded_plan.specs.Rewrite.{each_with_rows}
use Rattle.ded_plan.proofs.PlanLists.{made_one, made_yielded}
use Rattle.ded_plan.proofs.RowLists.{distributed_union, distributed_other, distributed_end, distributed_placed}
use Rattle.ded_plan.proofs.distributing.+with_rows.Goals as goal
use Rattle.ded_plan.proofs.distributing.+with_rows.Goals.{also_rows-else-not-placed-via-then-not-placed+else-is_union, also_rows-else-not-placed-via-else-not-placed, also_rows-then-not-placed-2+in_ok-copy+in_ok-push-3, also_rows-else-not-placed-2}

pub also_rows-loop-plan-preserved-then-is_union : goal.also_rows-loop-plan-preserved-then-is_union
also_rows-loop-plan-preserved-then-is_union t c =
    distributed_union c.args.tuple.now c.loop-plan.placed c.loop-plan.yielded c.loop-plan.members.items c.push.new.self.items c.in-Some.plan c.in_ok-with_rows.field-0
    (search rules) (search rules) c.in_ok-with_rows.ensures c.in_ok-push.ensures.items c.loop-plan.invariant

pub also_rows-loop-plan-preserved : goal.also_rows-loop-plan-preserved
also_rows-loop-plan-preserved t c =
    let other : (c.loop-plan.placed ≡ true) ⊎ (is_union (plan_form c.in-Some.plan) ≡ false) = elim c.else-not-placed.branch [
      | also_rows-else-not-placed-via-then-not-placed+else-is_union w ↦ inr (search rules)
      | also_rows-else-not-placed-via-else-not-placed w ↦ inl (search rules)
    ] in
    distributed_other c.args.tuple.now c.loop-plan.placed c.loop-plan.yielded c.loop-plan.members.items c.push-else-not-placed.new.self.items c.in-Some.plan other c.in_ok-push-2.ensures.items c.loop-plan.invariant

pub also_rows-returns : goal.also_rows-returns
also_rows-returns t c =
    let gives = c.into_iter-plan-iterator.ensures.into_iter_gives in
    let all = YieldsList-end (YieldsList-from_vec c.args.plans.items gives.0 (gives.1 ∙ c.args.plans.ok.0)) c.loop-plan.yielded c.loop-plan.plan-iterator c.loop-plan.yielded_by c.next.result c.next.new.self c.in-None.is c.next.ensures.steps in
    elim c.if-not-placed-2.branch [
      | also_rows-then-not-placed-2+in_ok-copy+in_ok-push-3 w ↦ (
          let p = plan.Rows w.in_ok-copy.field-0 in
          let e : plan_form p ≡ atom (rows c.args.tuple.now) = search (rules, the_lemmas, fold-roll-Plan, fold_out-Plan) in
          distributed_end c.args.tuple.now c.loop-plan.placed c.loop-plan.yielded c.loop-plan.members.items c.if-not-placed-2.members.items c.args.plans.items p (search rules) e
          (ap (λ m. m.items) w.members-is ∙ w.in_ok-push-3.ensures.items) all.0 c.loop-plan.invariant
          )
      | also_rows-else-not-placed-2 w ↦ (
          let placed = distributed_placed c.args.tuple.now c.loop-plan.placed c.loop-plan.yielded c.loop-plan.members.items c.args.plans.items w.if-not-placed-2.false all.0 c.loop-plan.invariant in
          ap (λ m. plan_forms m.items) w.members-is ∙ placed
          )
    ]

pub each_with_rows-loop-plan-preserved : goal.each_with_rows-loop-plan-preserved
each_with_rows-loop-plan-preserved t c =
    made_one (each_with_rows c.args.tuple.now) c.loop-plan.yielded c.loop-plan.parts.items c.push.new.self.items c.in-Some.plan c.in_ok-with_rows.field-0
    (λ fs. ap (λ g. also g (each_with_rows c.args.tuple.now fs)) (sym c.in_ok-with_rows.ensures)) c.in_ok-push.ensures.items c.loop-plan.invariant

pub each_with_rows-returns : goal.each_with_rows-returns
each_with_rows-returns t c =
    let gives = c.into_iter-plan-iterator.ensures.into_iter_gives in
    let all = YieldsList-end (YieldsList-from_vec c.args.plans.items gives.0 (gives.1 ∙ c.args.plans.ok.0)) c.loop-plan.yielded c.loop-plan.plan-iterator c.loop-plan.yielded_by c.next.result c.next.new.self c.in-None.is c.next.ensures.steps in
    made_yielded (each_with_rows c.args.tuple.now) refl c.loop-plan.yielded c.loop-plan.parts.items c.args.plans.items all.0 c.loop-plan.invariant
