use Rattle.std.proofs.Common.{◌≡◌, drop}
use Rattle.ded_model.specs.Logic.{any_mentions}
use Rattle.ded_model.specs.PlanForm.{plan_forms, in_plan_atom}
use Rattle.ded_model.specs.Point.{slot}
use Rattle.ded_plan.proofs.slots.+mentions.Given as goal

abbrev pub invariant-some_mentions-loop-plan : goal.invariant-some_mentions-loop-plan
invariant-some_mentions-loop-plan l =
    any_mentions in_plan_atom (plan_forms l.plan-items) (slot l.at) ≡ any_mentions in_plan_atom (plan_forms (drop l.plan-index l.plan-items)) (slot l.at)
