use Rattle.ded_model.proofs.Entries.{stored_other, stored_own, stored_measure_other, stored_measure_own}
use Rattle.ded_laws.proofs.points.new_stored.Goals as goal

pub returns-clause-meaning_other : goal.returns-clause-meaning_other
returns-clause-meaning_other c = stored_other

pub returns-clause-meaning_own : goal.returns-clause-meaning_own
returns-clause-meaning_own c = stored_own

pub returns-clause-measure_other : goal.returns-clause-measure_other
returns-clause-measure_other c = stored_measure_other

pub returns-clause-measure_own : goal.returns-clause-measure_own
returns-clause-measure_own c = stored_measure_own
