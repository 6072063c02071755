-- The first multiple is a rest above the number.
use Rattle.ded_ticks.proofs.Reaching.{first_from, first_least}
use Rattle.ded_ticks.proofs.laws.first.Goals as goal

pub returns-clause-from : goal.returns-clause-from
returns-clause-from c = first_from

pub returns-clause-least : goal.returns-clause-least
returns-clause-least c = first_least
