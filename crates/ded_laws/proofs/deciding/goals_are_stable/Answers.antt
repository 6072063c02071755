use Rattle.ded_laws.proofs.Decided.{goal_stable}
use Rattle.ded_laws.proofs.deciding.goals_are_stable.Goals as goal

pub returns : goal.returns
returns c = goal_stable
