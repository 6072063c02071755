use Rattle.ded_model.proofs.Alike.{Holds-alike, GoalHolds-alike, PlanHolds-alike}
use Rattle.ded_laws.proofs.points.used_names.Goals as goal

pub returns-clause-formula : goal.returns-clause-formula
returns-clause-formula c = Holds-alike

pub returns-clause-goal : goal.returns-clause-goal
returns-clause-goal c = GoalHolds-alike

pub returns-clause-plan : goal.returns-clause-plan
returns-clause-plan c = PlanHolds-alike
