use Rattle.std.proofs.Common.{◌≡◌}
use Rattle.ded_model.specs.PlanForm.{plan_forms}
use Rattle.ded_plan.specs.Rewrite.{no_rows_of, rows_of}
use Rattle.ded_plan.proofs.PlanLists.{AreMade}
use Rattle.ded_plan.proofs.distributing.distributed.Given as goal

abbrev pub invariant-loop-plan : goal.invariant-loop-plan
invariant-loop-plan l = AreMade no_rows_of l.yielded l.members.items × (l.tuples.items ≡ rows_of (plan_forms l.yielded))
