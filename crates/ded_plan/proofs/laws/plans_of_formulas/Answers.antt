use Rattle.ded_plan.proofs.PlansOfFormulas.{plan_of-formula}
use Rattle.ded_plan.proofs.laws.plans_of_formulas.Goals as goal

pub returns : goal.returns
returns call = plan_of-formula
