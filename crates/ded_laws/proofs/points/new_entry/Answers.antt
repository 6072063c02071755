use Rattle.ded_model.proofs.Entries.{meaning_other, meaning_own, measure_other, measure_own, known_other, known_own}
use Rattle.ded_laws.proofs.points.new_entry.Goals as goal

pub returns-clause-meaning_other : goal.returns-clause-meaning_other
returns-clause-meaning_other c = meaning_other

pub returns-clause-meaning_own : goal.returns-clause-meaning_own
returns-clause-meaning_own c = meaning_own

pub returns-clause-measure_other : goal.returns-clause-measure_other
returns-clause-measure_other c = measure_other

pub returns-clause-measure_own : goal.returns-clause-measure_own
returns-clause-measure_own c = measure_own

pub returns-clause-known_other : goal.returns-clause-known_other
returns-clause-known_other c = known_other

pub returns-clause-known_own : goal.returns-clause-known_own
returns-clause-known_own c = known_own
