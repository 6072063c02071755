use Rattle.ded_laws.proofs.Classical.{goal_implies_is}
use Rattle.ded_laws.proofs.deciding.goal_implies_is_not_or.Goals as goal

pub returns : goal.returns
returns c = goal_implies_is
