use Rattle.ded_laws.proofs.AtomSlots.{goal_lines-over, plan_lines-over}
use Rattle.ded_laws.proofs.lines.free_slots.Goals as goal

pub returns-clause-goal : goal.returns-clause-goal
returns-clause-goal c = goal_lines-over

pub returns-clause-plan : goal.returns-clause-plan
returns-clause-plan c = plan_lines-over
