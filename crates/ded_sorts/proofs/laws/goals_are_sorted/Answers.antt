use Rattle.ded_sorts.proofs.Rationals.{goal_of-sorted, goal_rational}
use Rattle.ded_sorts.proofs.Frees.{goal_free}
use Rattle.ded_sorts.proofs.laws.goals_are_sorted.Goals as goal

pub returns-clause-sorted : goal.returns-clause-sorted
returns-clause-sorted call = goal_of-sorted

pub returns-clause-rational : goal.returns-clause-rational
returns-clause-rational call = goal_rational

pub returns-clause-free : goal.returns-clause-free
returns-clause-free call = goal_free
