use Rattle.std.proofs.Common.{◌≡◌, drop}
use Rattle.ded_model.specs.Goal.{goal_forms}
use Rattle.ded_database.specs.Lost.{with_all_of}
use Rattle.ded_database.proofs.arguments.+add_arguments.Given as goal

abbrev pub invariant-add_all_arguments-loop-goal : goal.invariant-add_all_arguments-loop-goal
invariant-add_all_arguments-loop-goal l = with_all_of l.name l.all.items (goal_forms (drop l.goal-index l.goals.items)) ≡ with_all_of l.name l.initial.all.items (goal_forms l.goals.items)
