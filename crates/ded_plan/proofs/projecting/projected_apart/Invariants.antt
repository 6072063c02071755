use Rattle.ded_model.specs.Point.{slot}
use Rattle.ded_plan.specs.Rewrite.{inside, outside}
use Rattle.ded_plan.proofs.PlanLists.{AreMade}
use Rattle.ded_plan.proofs.projecting.projected_apart.Given as goal

abbrev pub invariant-loop-plan : goal.invariant-loop-plan
invariant-loop-plan l = AreMade (inside (slot l.at)) l.yielded l.inside.items × AreMade (outside (slot l.at)) l.yielded l.outside.items
