use Rattle.std.proofs.Common.{◌≡◌, ◌∷◌, map}
use Rattle.ded_model.specs.PlanForm.{plan_form}
use Rattle.ded_algebra.proofs.compiling.joined.Given as goal

abbrev pub invariant-loop-other : goal.invariant-loop-other
invariant-loop-other l = map plan_form l.parts.items ≡ plan_form l.fn.plan ∷ map plan_form l.yielded
