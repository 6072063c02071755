use Rattle.ded_parts.proofs.DealtPlans.{dealt_plans, scans_alone}
use Rattle.ded_parts.proofs.PartNames.{plan_apart, reached_by_name}
use Rattle.ded_parts.proofs.laws.distributing_plans.Goals as goal

pub returns-clause-dealt : goal.returns-clause-dealt
returns-clause-dealt c = dealt_plans

pub returns-clause-apart : goal.returns-clause-apart
returns-clause-apart c = plan_apart

pub returns-clause-relations : goal.returns-clause-relations
returns-clause-relations c = reached_by_name

pub returns-clause-route : goal.returns-clause-route
returns-clause-route c = scans_alone
