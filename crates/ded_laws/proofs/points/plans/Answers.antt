use Rattle.ded_model.proofs.Sats.{PlanHolds-same}
use Rattle.ded_laws.proofs.points.plans.Goals as goal

pub returns-clause-values : goal.returns-clause-values
returns-clause-values c = PlanHolds-same

pub returns-clause-point : goal.returns-clause-point
returns-clause-point c = λ d f p q i j same h. PlanHolds-same d f p q i j (λ k e. same k) h
