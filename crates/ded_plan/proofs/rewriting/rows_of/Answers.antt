use Rattle.std.proofs.Common.{subst}
use Rattle.ded_model.specs.Normal.{IsNormalTuple}
use Rattle.ded_plan.proofs.rewriting.rows_of.Goals as goal

pub returns-clause-normal : goal.returns-clause-normal
returns-clause-normal c = subst IsNormalTuple c.tuple.view_is c.tuple.invariant
