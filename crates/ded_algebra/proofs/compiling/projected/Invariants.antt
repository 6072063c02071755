use Rattle.std.proofs.Common.{◌≡◌, drop}
use Rattle.ded_model.specs.PlanForm.{plan_form}
use Rattle.ded_algebra.specs.Compile.{projected}
use Rattle.ded_algebra.proofs.compiling.projected.Given as goal

abbrev pub invariant-loop-slot : goal.invariant-loop-slot
invariant-loop-slot l = projected (drop l.slot-index l.slots) (plan_form l.plan) ≡ projected l.slots (plan_form l.fn.plan)
