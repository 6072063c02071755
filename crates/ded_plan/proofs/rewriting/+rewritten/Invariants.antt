use Rattle.ded_model.specs.Logic.{every_of}
use Rattle.ded_model.specs.PlanForm.{plan_forms}
use Rattle.ded_plan.specs.Rewrite.{each_rewritten}
use Rattle.ded_plan.specs.Rewritten.{IsTidyPlan}
use Rattle.ded_plan.proofs.PlanLists.{AreMade}
use Rattle.ded_plan.proofs.rewriting.+rewritten.Given as goal

abbrev pub invariant-each_rewritten-loop-plan : goal.invariant-each_rewritten-loop-plan
invariant-each_rewritten-loop-plan l = AreMade each_rewritten l.yielded l.done.items × IsTidyPlan (every_of (plan_forms l.yielded))
