use Rattle.ded_relation.proofs.Simplest.{whole_over}
use Rattle.ded_trials.proofs.catalogues.insert.Goals as goal

pub insert-requires-clause-over : goal.insert-requires-clause-over
insert-requires-clause-over c = whole_over _ c.whole_space.result c.whole_space.ensures
