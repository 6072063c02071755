use Rattle.ded_database.proofs.MarksOfViews.{nothing_beside}
use Rattle.ded_database.proofs.laws.nothing_beside.Goals as goal

pub returns : goal.returns
returns c = nothing_beside
