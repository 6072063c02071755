use Rattle.ded_views.proofs.MadeNames.{made_means, made_same, given_same, stored_same}
use Rattle.ded_views.proofs.laws.made_names.Goals as goal

pub returns-clause-means : goal.returns-clause-means
returns-clause-means c = made_means

pub returns-clause-counted : goal.returns-clause-counted
returns-clause-counted c = made_same

pub returns-clause-given : goal.returns-clause-given
returns-clause-given c = given_same

pub returns-clause-stored : goal.returns-clause-stored
returns-clause-stored c = stored_same
