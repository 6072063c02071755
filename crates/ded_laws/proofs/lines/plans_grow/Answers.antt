use Rattle.ded_model.proofs.Growth.{plan_lines-grow, plan_clashes-grow}
use Rattle.ded_laws.proofs.lines.plans_grow.Goals as goal

pub returns-clause-lines : goal.returns-clause-lines
returns-clause-lines c = plan_lines-grow

pub returns-clause-clash : goal.returns-clause-clash
returns-clause-clash c = plan_clashes-grow
