use Rattle.std.proofs.Common.{rules, ◌≡◌, sym, subst}
use Rattle.std.specs.Prelude.{IfOk}
use Rattle.ded_model.specs.declared.plan.Plan.TheFolds.{fold-roll-Plan, fold_out-Plan}
use Rattle.ded_model.specs.declared.plan.Plan.TheViews.{the_lemmas}
use Rattle.ded_model.specs.Logic.{every_of, some_atom}
use Rattle.ded_model.specs.PlanForm.{plan_form, plan_forms}
use Rattle.ded_eval.specs.OrderPlans.{has_other_in}
use Rattle.ded_eval.proofs.deciding.+plan_has_other.Goals as goal

pub plan_has_other-returns-in-Join : goal.plan_has_other-returns-in-Join
plan_has_other-returns-in-Join g t c =
    let e : plan_form c.args.plan.now ≡ every_of (plan_forms c.in-Join.parts.items) = search (rules, the_lemmas, fold-roll-Plan, fold_out-Plan) in
    subst (λ f. IfOk c.some_plan_has_other.result (λ b. b ≡ some_atom (has_other_in (g.R.Relations.catalogue c.args.relations.now)) f)) (sym e) c.some_plan_has_other.ensures
