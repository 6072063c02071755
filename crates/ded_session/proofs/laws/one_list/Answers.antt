use Rattle.ded_session.proofs.OneList.{one_list}
use Rattle.ded_session.proofs.laws.one_list.Goals as goal

pub returns : goal.returns
returns c = one_list
