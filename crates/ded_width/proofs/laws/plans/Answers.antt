use Rattle.ded_width.proofs.PlanReaches.{plan_within, plan_tight}
use Rattle.ded_width.proofs.laws.plans.Goals as goal

pub returns-clause-within : goal.returns-clause-within
returns-clause-within c = plan_within

pub returns-clause-tight : goal.returns-clause-tight
returns-clause-tight c = plan_tight
