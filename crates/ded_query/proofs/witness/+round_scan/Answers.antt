use Rattle.std.proofs.Common.{rules, ◌≡◌}
use Rattle.std.proofs.lemmas.Option.{IfSome_then}
use Rattle.ded_model.specs.declared.plan.Plan.TheFolds.{fold-roll-Plan, fold_out-Plan}
use Rattle.ded_model.specs.declared.plan.Plan.TheViews.{the_lemmas}
use Rattle.ded_model.specs.Logic.{exists}
use Rattle.ded_model.specs.PlanForm.{plan_form}
use Rattle.ded_model.specs.Point.{slot}
use Rattle.ded_query.proofs.Witnesses.{round_more}
use Rattle.ded_query.proofs.witness.+round_scan.Goals as goal

pub returns-in-Project : goal.returns-in-Project
returns-in-Project t c =
    let s = c.in-Project.field-0 in
    let f = plan_form c.deref.result.now in
    let e : plan_form c.args.plan.now ≡ exists s.sort (slot s) (plan_form c.deref.result.now) = search (rules, the_lemmas, fold-roll-Plan, fold_out-Plan) in
    IfSome_then c.round_scan.result c.round_scan.ensures (λ r k. round_more s f (plan_form c.args.plan.now) r.0.now r.1.now e k)
