use Rattle.std.proofs.Common.{◌≡◌, true, take}
use Rattle.std.specs.List.{AllByRecursion}
use Rattle.ded_model.specs.PlanForm.{plan_form}
use Rattle.ded_query.specs.Asking.{projects}
use Rattle.ded_query.proofs.witness.are_projected.Given as goal

abbrev pub invariant-loop-slot : goal.invariant-loop-slot
invariant-loop-slot l = AllByRecursion (λ s. projects (plan_form l.plan) s ≡ true) (take l.slot-index l.slot-items)
