use Rattle.ded_views.proofs.Changing.{added, dropped, changed, known_alike, reach_alike}
use Rattle.ded_views.proofs.laws.changes.Goals as goal

pub returns-clause-added : goal.returns-clause-added
returns-clause-added c = added

pub returns-clause-dropped : goal.returns-clause-dropped
returns-clause-dropped c = dropped

pub returns-clause-changed : goal.returns-clause-changed
returns-clause-changed c = λ a b n h i j ts us w x. changed a b n h i j ts us x w

pub returns-clause-kinds : goal.returns-clause-kinds
returns-clause-kinds c = known_alike

pub returns-clause-reach : goal.returns-clause-reach
returns-clause-reach c = reach_alike
