use Rattle.ded_width.proofs.GoalReaches.{goal_within, goal_tight}
use Rattle.ded_width.proofs.laws.goals.Goals as goal

pub returns-clause-within : goal.returns-clause-within
returns-clause-within c = goal_within

pub returns-clause-tight : goal.returns-clause-tight
returns-clause-tight c = goal_tight
