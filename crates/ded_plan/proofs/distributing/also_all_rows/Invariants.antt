use Rattle.std.proofs.Common.{◌≡◌, drop}
use Rattle.ded_model.specs.PlanForm.{plan_forms}
use Rattle.ded_plan.specs.Rewrite.{also_all_rows}
use Rattle.ded_plan.proofs.distributing.also_all_rows.Given as goal

abbrev pub invariant-loop-tuple : goal.invariant-loop-tuple
invariant-loop-tuple l = also_all_rows (drop l.tuple-index l.tuples) (plan_forms l.members.items) ≡ also_all_rows l.tuples (plan_forms l.fn.members.items)
