use Rattle.ded_width.proofs.AscendingGoals.{accepted_ascending}
use Rattle.ded_width.proofs.laws.accepted_goals.Goals as goal

pub returns : goal.returns
returns c = record { ascending = accepted_ascending }
