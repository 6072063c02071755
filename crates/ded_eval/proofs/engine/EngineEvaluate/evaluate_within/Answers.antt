use Rattle.ded_model.specs.PlanForm.{plan_form}
use Rattle.ded_model.specs.Row.{tuple_holds}
use Rattle.ded_eval.proofs.PlansWritten.{written_for}
use Rattle.ded_eval.proofs.engine.EngineEvaluate.evaluate_within.Goals as goal

pub returns-clause-is : goal.returns-clause-is
returns-clause-is g c =
    written_for (g.R.Relations.catalogue c.args.relations.now) (plan_form c.args.plan.now) (tuple_holds c.args.within.now) c.in_ok-list.list c.in_ok-tuples.field-0 c.in_ok-list.ensures.is c.in_ok-tuples.ensures
