use Rattle.std.proofs.Common.{◌≡◌, take, map}
use Rattle.ded_model.specs.PlanForm.{plan_form}
use Rattle.ded_model.proofs.plan.+copy.Given as goal

abbrev pub invariant-copy_plans-loop-part : goal.invariant-copy_plans-loop-part
invariant-copy_plans-loop-part l = map plan_form l.copies.items ≡ map plan_form (take l.part-index l.part-items)
