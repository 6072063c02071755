use Rattle.ded_keep.proofs.Counting.{conjunctive_plans}
use Rattle.ded_keep.proofs.laws.conjunctive_plans.Goals as goal

pub returns : goal.returns
returns c = conjunctive_plans
