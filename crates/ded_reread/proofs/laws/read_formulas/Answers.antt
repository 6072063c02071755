use Rattle.ded_reread.specs.Words.{Passes}
use Rattle.ded_reread.proofs.Accepted.{accepted_restored, plain_restored, short_restored, written_restored, level_restored, speaks_restored}
use Rattle.ded_reread.proofs.laws.read_formulas.Goals as goal

pub returns-clause-accepted : goal.returns-clause-accepted
returns-clause-accepted call = λ K h f a p. accepted_restored K h f a p

pub returns-clause-level : goal.returns-clause-level
returns-clause-level call = λ K h f. level_restored K h f

pub returns-clause-speaks : goal.returns-clause-speaks
returns-clause-speaks call = λ n h f. speaks_restored n h f

pub returns-clause-written : goal.returns-clause-written
returns-clause-written call = λ N M T K h f a n w. written_restored K h f a (Passes N) (Passes M) (Passes T) w

pub returns-clause-plain : goal.returns-clause-plain
returns-clause-plain call = λ K h f a p. plain_restored K h f a p

pub returns-clause-short : goal.returns-clause-short
returns-clause-short call = λ K h f a p s. short_restored K h f a p s
