use Rattle.ded_model.specs.Point.{slot}
use Rattle.ded_plan.specs.Rewrite.{each_projected}
use Rattle.ded_plan.proofs.PlanLists.{AreMade}
use Rattle.ded_plan.proofs.projecting.+projected.Given as goal

abbrev pub invariant-each_projected-loop-plan : goal.invariant-each_projected-loop-plan
invariant-each_projected-loop-plan l = AreMade (each_projected l.at.sort (slot l.at)) l.yielded l.parts.items
