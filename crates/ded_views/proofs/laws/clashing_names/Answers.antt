use Rattle.ded_views.proofs.Clashing.{goal_clashing, plan_clashing}
use Rattle.ded_views.proofs.laws.clashing_names.Goals as goal

pub returns-clause-goal : goal.returns-clause-goal
returns-clause-goal c = goal_clashing

pub returns-clause-plan : goal.returns-clause-plan
returns-clause-plan c = plan_clashing
