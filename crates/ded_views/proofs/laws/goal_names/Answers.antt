use Rattle.ded_views.proofs.GoalNames.{goal_names}
use Rattle.ded_views.proofs.laws.goal_names.Goals as goal

pub returns : goal.returns
returns c = goal_names
