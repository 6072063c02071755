use Rattle.ded_views.proofs.OneChange.{one_insert, one_delete}
use Rattle.ded_views.proofs.laws.one_change.Goals as goal

pub returns-clause-insert : goal.returns-clause-insert
returns-clause-insert c = one_insert

pub returns-clause-delete : goal.returns-clause-delete
returns-clause-delete c = one_delete
