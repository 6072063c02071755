use Rattle.ded_resolve.proofs.NormalGoals.{normal_goal, accepted_goal}
use Rattle.ded_resolve.proofs.laws.normal_goals.Goals as goal

pub returns-clause-sorted : goal.returns-clause-sorted
returns-clause-sorted c = normal_goal

pub returns-clause-accepted : goal.returns-clause-accepted
returns-clause-accepted c = accepted_goal
