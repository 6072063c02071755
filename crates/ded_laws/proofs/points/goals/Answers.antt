use Rattle.ded_model.proofs.Sats.{GoalHolds-same}
use Rattle.ded_laws.proofs.points.goals.Goals as goal

pub returns-clause-values : goal.returns-clause-values
returns-clause-values c = GoalHolds-same

pub returns-clause-point : goal.returns-clause-point
returns-clause-point c = λ d f p q i j same h. GoalHolds-same d f p q i j (λ k e. same k) h
