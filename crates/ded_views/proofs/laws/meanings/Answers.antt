use Rattle.ded_views.proofs.Views.{relation_means, view_means}
use Rattle.ded_views.proofs.laws.meanings.Goals as goal

pub returns-clause-relation : goal.returns-clause-relation
returns-clause-relation c = relation_means

pub returns-clause-view : goal.returns-clause-view
returns-clause-view c = view_means
