use Rattle.ded_shared.proofs.OneTag.{one_tagged, one_tagged_list}
use Rattle.ded_shared.proofs.laws.one_tag.Goals as goal

pub returns-clause-one : goal.returns-clause-one
returns-clause-one c = one_tagged

pub returns-clause-all : goal.returns-clause-all
returns-clause-all c = one_tagged_list
