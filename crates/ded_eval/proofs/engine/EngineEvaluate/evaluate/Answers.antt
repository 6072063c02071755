use Rattle.std.proofs.Common.{true, subst}
use Rattle.ded_model.specs.PlanForm.{plan_form}
use Rattle.ded_eval.specs.Finding.{IsClosedVerdict}
use Rattle.ded_eval.proofs.PlansRead.{evaluable_any}
use Rattle.ded_eval.proofs.Shown.{found_everywhere, found_nowhere}
use Rattle.ded_eval.proofs.PlansWritten.{written_for}
use Rattle.ded_eval.proofs.engine.EngineEvaluate.evaluate.Goals as goal

pub found-requires : goal.found-requires
found-requires g c = evaluable_any (g.R.Relations.catalogue c.args.relations.now) (plan_form c.args.plan.now) c.requires

pub returns-in_ok-everywhere-in-Inhabited-clause-is : goal.returns-in_ok-everywhere-in-Inhabited-clause-is
returns-in_ok-everywhere-in-Inhabited-clause-is g c =
    let cat = g.R.Relations.catalogue c.args.relations.now in
    let f = plan_form c.args.plan.now in
    found_everywhere cat f c.in_ok-everywhere-in-Inhabited.field-0 c.in_ok-everywhere-in-Inhabited.ensures (subst (IsClosedVerdict cat f) c.in-Inhabited.is c.in_ok-found.ensures)

pub returns-in-Empty-clause-is : goal.returns-in-Empty-clause-is
returns-in-Empty-clause-is g c =
    let cat = g.R.Relations.catalogue c.args.relations.now in
    let f = plan_form c.args.plan.now in
    found_nowhere cat f c.nowhere.result c.nowhere.ensures (subst (IsClosedVerdict cat f) c.in-Empty.is c.in_ok-found.ensures)

pub returns-in_ok-tuples-in-Unknown-clause-is : goal.returns-in_ok-tuples-in-Unknown-clause-is
returns-in_ok-tuples-in-Unknown-clause-is g c =
    written_for (g.R.Relations.catalogue c.args.relations.now) (plan_form c.args.plan.now) (λ p. true) c.in_ok-list-in-Unknown.list c.in_ok-tuples-in-Unknown.field-0 c.in_ok-list-in-Unknown.ensures.is c.in_ok-tuples-in-Unknown.ensures
