use Rattle.ded_model.specs.PlanForm.{plan_form}
use Rattle.ded_eval.proofs.PlansRead.{evaluable_any}
use Rattle.ded_eval.proofs.over_atoms.eval_counted.Goals as goal

pub evaluate_counted-requires : goal.evaluate_counted-requires
evaluate_counted-requires g c = evaluable_any (g.R.Relations.catalogue c.args.relations.now) (plan_form c.args.plan.now) c.requires
