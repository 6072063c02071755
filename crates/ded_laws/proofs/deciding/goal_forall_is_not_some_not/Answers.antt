use Rattle.ded_laws.proofs.Classical.{goal_forall_is}
use Rattle.ded_laws.proofs.deciding.goal_forall_is_not_some_not.Goals as goal

pub returns : goal.returns
returns c = goal_forall_is
