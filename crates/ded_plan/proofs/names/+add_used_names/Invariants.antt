use Rattle.std.proofs.Common.{◌≡◌, drop}
use Rattle.ded_model.specs.Goal.{goal_forms}
use Rattle.ded_plan.specs.ScannedNames.{with_all_names, used_name}
use Rattle.ded_plan.proofs.names.+add_used_names.Given as goal

abbrev pub invariant-add_all_used_names-loop-goal : goal.invariant-add_all_used_names-loop-goal
invariant-add_all_used_names-loop-goal l = with_all_names used_name l.names.items (goal_forms (drop l.goal-index l.goals.items)) ≡ with_all_names used_name l.initial.names.items (goal_forms l.goals.items)
