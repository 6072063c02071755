use Rattle.ded_plan.specs.Rewrite.{flattened}
use Rattle.ded_plan.proofs.PlanLists.{AreMade}
use Rattle.ded_plan.proofs.joining.flattened.Given as goal

abbrev pub invariant-loop-plan : goal.invariant-loop-plan
invariant-loop-plan l = AreMade flattened l.yielded l.members.items
