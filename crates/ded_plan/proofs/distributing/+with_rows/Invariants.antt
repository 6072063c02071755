use Rattle.ded_plan.specs.Rewrite.{each_with_rows}
use Rattle.ded_plan.proofs.PlanLists.{AreMade}
use Rattle.ded_plan.proofs.RowLists.{AreDistributed}
use Rattle.ded_plan.proofs.distributing.+with_rows.Given as goal

abbrev pub invariant-each_with_rows-loop-plan : goal.invariant-each_with_rows-loop-plan
invariant-each_with_rows-loop-plan l = AreMade (each_with_rows l.tuple) l.yielded l.parts.items

abbrev pub invariant-also_rows-loop-plan : goal.invariant-also_rows-loop-plan
invariant-also_rows-loop-plan l = AreDistributed l.tuple l.placed l.yielded l.members.items
