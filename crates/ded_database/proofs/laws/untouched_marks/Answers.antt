use Rattle.ded_database.proofs.MarksOfViews.{untouched_marks}
use Rattle.ded_database.proofs.laws.untouched_marks.Goals as goal

pub returns : goal.returns
returns c = untouched_marks
