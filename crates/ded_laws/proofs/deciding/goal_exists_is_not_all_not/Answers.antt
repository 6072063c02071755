use Rattle.ded_laws.proofs.Classical.{goal_exists_is}
use Rattle.ded_laws.proofs.deciding.goal_exists_is_not_all_not.Goals as goal

pub returns : goal.returns
returns c = goal_exists_is
