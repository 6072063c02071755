use Rattle.std.proofs.Common.{◌≡◌, drop}
use Rattle.ded_model.specs.PlanForm.{plan_forms}
use Rattle.ded_plan.specs.ScannedNames.{with_all_names, scanned_name}
use Rattle.ded_plan.proofs.names.+add_names.Given as goal

abbrev pub invariant-add_all_names-loop-plan : goal.invariant-add_all_names-loop-plan
invariant-add_all_names-loop-plan l = with_all_names scanned_name l.names.items (plan_forms (drop l.plan-index l.plans.items)) ≡ with_all_names scanned_name l.initial.names.items (plan_forms l.plans.items)
