use Rattle.ded_laws.proofs.Decided.{goal_decided}
use Rattle.ded_laws.proofs.deciding.goals_are_decided.Goals as goal

pub returns : goal.returns
returns c = goal_decided
