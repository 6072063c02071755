use Rattle.ded_resolve.proofs.Accepted.{sums_of-accepted, comparisons_of-accepted, few-accepted}
use Rattle.ded_resolve.proofs.laws.accepted_formulas.Goals as goal

pub returns-clause-sums : goal.returns-clause-sums
returns-clause-sums c = sums_of-accepted

pub returns-clause-comparisons : goal.returns-clause-comparisons
returns-clause-comparisons c = comparisons_of-accepted

pub returns-clause-few : goal.returns-clause-few
returns-clause-few c = few-accepted
