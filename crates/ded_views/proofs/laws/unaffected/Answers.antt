use Rattle.ded_views.proofs.Unaffected.{unaffected, unaffected_meaning, unaffected_measure}
use Rattle.ded_views.proofs.laws.unaffected.Goals as goal

pub returns-clause-meaning : goal.returns-clause-meaning
returns-clause-meaning c = unaffected_meaning

pub returns-clause-measure : goal.returns-clause-measure
returns-clause-measure c = unaffected_measure

pub returns-clause-known : goal.returns-clause-known
returns-clause-known c = λ a b w v among u n m. (unaffected a b w v among u n m).knows

pub returns-clause-reach : goal.returns-clause-reach
returns-clause-reach c = λ a b w v among u n m. (unaffected a b w v among u n m).reached
