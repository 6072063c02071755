use Rattle.std.proofs.Common.{◌≡◌, ◌+◌, ◌≤◌, drop}
use Rattle.ded_model.specs.PlanForm.{plan_forms}
use Rattle.ded_model.specs.Point.{slot}
use Rattle.ded_plan.specs.Rewrite.{count_of, inside}
use Rattle.ded_plan.proofs.projecting.count_inside.Given as goal

abbrev pub invariant-loop-plan : goal.invariant-loop-plan
invariant-loop-plan l =
    (l.count ≤ l.plan-index) × (l.count + count_of (inside (slot l.at) (plan_forms (drop l.plan-index l.plan-items))) ≡ count_of (inside (slot l.at) (plan_forms l.plan-items)))
