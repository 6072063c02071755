use Rattle.ded_model.proofs.Alike.{Holds-alike, GoalHolds-alike, PlanHolds-alike}
use Rattle.ded_laws.proofs.points.alike_catalogues.Goals as goal

pub returns-clause-formula : goal.returns-clause-formula
returns-clause-formula c = λ c d f p h. Holds-alike c d f p (λ n _. h n)

pub returns-clause-goal : goal.returns-clause-goal
returns-clause-goal c = λ c d f p h. GoalHolds-alike c d f p (λ n _. h n)

pub returns-clause-plan : goal.returns-clause-plan
returns-clause-plan c = λ c d f p h. PlanHolds-alike c d f p (λ n _. h n)
