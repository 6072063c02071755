use Rattle.ded_model.specs.PlanForm.{plan_form}
use Rattle.ded_query.proofs.Witnesses.{asking}
use Rattle.ded_query.proofs.witness.asked_name.Goals as goal

pub returns-then-are_projected : goal.returns-then-are_projected
returns-then-are_projected c = asking (plan_form c.args.plan.now) c.in_ok-name.name.now c.in_ok-name.slots.now c.in_ok-name.ensures (c.are_projected.ensures c.if-are_projected.true)
