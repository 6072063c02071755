use Rattle.ded_model.proofs.Growth.{goal_lines-grow, goal_clashes-grow}
use Rattle.ded_laws.proofs.lines.goals_grow.Goals as goal

pub returns-clause-lines : goal.returns-clause-lines
returns-clause-lines c = goal_lines-grow

pub returns-clause-clash : goal.returns-clause-clash
returns-clause-clash c = goal_clashes-grow
