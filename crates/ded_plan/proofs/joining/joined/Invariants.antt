use Rattle.ded_plan.specs.Rewrite.{kept, taken}
use Rattle.ded_plan.proofs.PlanLists.{AreMade}
use Rattle.ded_plan.proofs.joining.joined.Given as goal

abbrev pub invariant-loop-plan : goal.invariant-loop-plan
invariant-loop-plan l = AreMade kept l.yielded l.kept.items × AreMade taken l.yielded l.taken.items
