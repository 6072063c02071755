use Rattle.ded_session.proofs.Histories.{lost_lists}
use Rattle.ded_session.proofs.laws.lost_lists.Goals as goal

pub returns : goal.returns
returns c = lost_lists
