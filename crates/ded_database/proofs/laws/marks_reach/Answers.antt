use Rattle.ded_database.proofs.MarksOfViews.{marks_reach}
use Rattle.ded_database.proofs.laws.marks_reach.Goals as goal

pub returns : goal.returns
returns c = marks_reach
