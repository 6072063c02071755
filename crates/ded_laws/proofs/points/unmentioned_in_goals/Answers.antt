use Rattle.ded_model.specs.Goal.{GoalAtomHolds, in_goal_atom}
use Rattle.ded_model.specs.Catalogue.{meaning}
use Rattle.ded_model.proofs.Sats.{goal_respects}
use Rattle.ded_model.proofs.Unused.{extension, unused, unused_forall}
use Rattle.ded_laws.proofs.points.unmentioned_in_goals.Goals as goal

pub returns-clause-extension : goal.returns-clause-extension
returns-clause-extension c = λ d f s k p q. extension (GoalAtomHolds (meaning d)) in_goal_atom (goal_respects d) f s k p q

pub returns-clause-exists : goal.returns-clause-exists
returns-clause-exists c = λ d f s k p. unused (GoalAtomHolds (meaning d)) in_goal_atom (goal_respects d) f s k p

pub returns-clause-forall : goal.returns-clause-forall
returns-clause-forall c = λ d f s k p. unused_forall (GoalAtomHolds (meaning d)) in_goal_atom (goal_respects d) f s k p
