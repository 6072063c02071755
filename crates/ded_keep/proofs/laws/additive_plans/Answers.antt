use Rattle.ded_keep.proofs.AdditivePlans.{additive_plans, added_given}
use Rattle.ded_keep.proofs.laws.additive_plans.Goals as goal

pub returns-clause-means : goal.returns-clause-means
returns-clause-means c = additive_plans

pub returns-clause-given : goal.returns-clause-given
returns-clause-given c = added_given
