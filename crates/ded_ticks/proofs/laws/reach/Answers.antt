-- Each step that is taken reaches.
use Rattle.ded_ticks.proofs.Reaching.{numbers, times}
use Rattle.ded_ticks.proofs.laws.reach.Goals as goal

pub returns-clause-numbers : goal.returns-clause-numbers
returns-clause-numbers c = numbers

pub returns-clause-times : goal.returns-clause-times
returns-clause-times c = times
