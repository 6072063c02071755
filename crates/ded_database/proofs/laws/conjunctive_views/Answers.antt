use Rattle.ded_database.proofs.MarksOfViews.{conjunctive_views}
use Rattle.ded_database.proofs.laws.conjunctive_views.Goals as goal

pub returns : goal.returns
returns c = conjunctive_views
