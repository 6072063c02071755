use Rattle.std.proofs.Common.{◌≡◌, sym, ap, ap₂, ◌∙◌, rules}
use Rattle.ded_model.specs.declared.plan.Plan.TheFolds.{fold-roll-Plan, fold_out-Plan}
use Rattle.ded_model.specs.declared.plan.Plan.TheViews.{the_lemmas}
use Rattle.ded_model.specs.Logic.{minus, count_atoms}
use Rattle.ded_model.specs.PlanForm.{PlanForm, plan_form}
use Rattle.ded_algebra.specs.Compiled.{is_scan_of}
use Rattle.ded_keep.specs.Scans.{scans_of, both}
use Rattle.ded_keep.proofs.ScanCounts.{both_of, one_more}
use Rattle.ded_keep.proofs.additive.+count.Goals as goal

pub count-returns-in-Minus : goal.count-returns-in-Minus
count-returns-in-Minus t c =
    let scans = λ (f : PlanForm). count_atoms (is_scan_of c.args.name.now) f in
    let form : plan_form c.args.plan.now ≡ minus (plan_form c.deref.result.now) (plan_form c.deref-in-Minus.result.now) = search (rules, the_lemmas, fold-roll-Plan, fold_out-Plan) in
    c.both.ensures
    ∙ ap₂ both c.count.ensures c.count-in-Minus.ensures
    ∙ both_of (scans (plan_form c.deref.result.now)) (scans (plan_form c.deref-in-Minus.result.now))
    ∙ ap (λ f. scans_of (scans f)) (sym form)

pub count_all-loop-plan-preserved : goal.count_all-loop-plan-preserved
count_all-loop-plan-preserved t c =
    one_more c.args.name.now c.deref-plan-items.result.now c.loop-plan.plan-index c.plan-item.result c.loop-plan.all c.count.result c.both-all.result _ c.loop-plan-test.true c.plan-item.is c.count.ensures c.both-all.ensures c.loop-plan.invariant
