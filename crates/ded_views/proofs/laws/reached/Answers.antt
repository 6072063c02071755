use Rattle.ded_views.proofs.Placing.{unreached}
use Rattle.std.proofs.Common.{ap}
use Rattle.ded_views.proofs.Views.{relation_reaches, view_reaches, used_reaches}
use Rattle.ded_views.proofs.laws.reached.Goals as goal

pub returns-clause-relation : goal.returns-clause-relation
returns-clause-relation c = relation_reaches

pub returns-clause-view : goal.returns-clause-view
returns-clause-view c = view_reaches

pub returns-clause-used : goal.returns-clause-used
returns-clause-used c = used_reaches

pub returns-clause-undefined : goal.returns-clause-undefined
returns-clause-undefined c = λ d n e r. ap (λ t. t r) (unreached d n e)
