use Rattle.ded_views.proofs.Placing.{unknown}
use Rattle.ded_views.proofs.Views.{name_measure, stored_measure, plain_there, name_known}
use Rattle.ded_views.proofs.laws.entries.Goals as goal

pub returns-clause-measure : goal.returns-clause-measure
returns-clause-measure c = name_measure

pub returns-clause-known : goal.returns-clause-known
returns-clause-known c = name_known

pub returns-clause-unknown : goal.returns-clause-unknown
returns-clause-unknown c = unknown

pub returns-clause-stored : goal.returns-clause-stored
returns-clause-stored c = stored_measure

pub returns-clause-plain : goal.returns-clause-plain
returns-clause-plain c = plain_there
