use Rattle.std.proofs.Common.{List, drop}
use Rattle.ded_model.specs.PlanForm.{plan_forms}
use Rattle.ded_plan.specs.declared.scans.ScanWithin.{ScanWithin}
use Rattle.ded_plan.specs.Scans.{AddsEach}
use Rattle.ded_plan.proofs.scans.+add_scans.Given as goal

-- what adds the scans of the plans that are left adds those of all
abbrev pub invariant-add_each-loop-plan : goal.invariant-add_each-loop-plan
invariant-add_each-loop-plan l = (new : List ScanWithin) → AddsEach (plan_forms (drop l.plan-index l.plan-items)) l.within l.scans.items new → AddsEach (plan_forms l.plan-items) l.within l.initial.scans.items new
