use Rattle.std.proofs.Common.{◌≡◌, drop}
use Rattle.ded_model.specs.Goal.{goal_forms}
use Rattle.ded_database.specs.Lost.{lines_mention, any_binds}
use Rattle.ded_database.proofs.arguments.+binds.Given as goal

abbrev pub invariant-some_binds-loop-goal : goal.invariant-some_binds-loop-goal
invariant-some_binds-loop-goal l = any_binds (lines_mention l.lines) (goal_forms (drop l.goal-index l.goals.items)) ≡ any_binds (lines_mention l.lines) (goal_forms l.goals.items)
