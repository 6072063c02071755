use Rattle.std.proofs.Common.{◌≡◌, drop}
use Rattle.ded_model.specs.Logic.{some_atom_of}
use Rattle.ded_model.specs.PlanForm.{plan_forms}
use Rattle.ded_parts.specs.Distributing.{is_made_scan}
use Rattle.ded_parts.proofs.distributing.+scans_made.Given as goal

abbrev pub invariant-some_scans_made-loop-plan : goal.invariant-some_scans_made-loop-plan
invariant-some_scans_made-loop-plan l =
    some_atom_of (is_made_scan l.name) (plan_forms (drop l.plan-index l.plans.items)) ≡ some_atom_of (is_made_scan l.name) (plan_forms l.plans.items)
