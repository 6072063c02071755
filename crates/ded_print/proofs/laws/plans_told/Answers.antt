use Rattle.ded_print.proofs.PlansTold.{same_plans, same_texts}
use Rattle.ded_print.proofs.laws.plans_told.Goals as goal

pub returns-clause-lines : goal.returns-clause-lines
returns-clause-lines c = same_plans

pub returns-clause-texts : goal.returns-clause-texts
returns-clause-texts c = same_texts
