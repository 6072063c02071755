use Rattle.ded_database.proofs.MarksOfViews.{lasting_marks}
use Rattle.ded_database.proofs.laws.lasting_marks.Goals as goal

pub returns : goal.returns
returns c = lasting_marks
