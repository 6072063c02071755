use Rattle.ded_weighing.proofs.Meetings.{rows_somewhere}
use Rattle.ded_weighing.proofs.laws.witnesses.Goals as goal

pub returns : goal.returns
returns c = rows_somewhere
