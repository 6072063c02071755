use Rattle.std.proofs.Common.{sym, ◌∙◌}
use Rattle.ded_readback.proofs.Loops.{tuples_on, tuples_done}
use Rattle.ded_readback.proofs.tuple.tuples.Goals as goal

pub returns-in_default-clause-read : goal.returns-in_default-clause-read
returns-in_default-clause-read c = sym c.loop.invariant ∙ tuples_done _ _ _ _ _ c.loop-test.true c.in_default.ensures.none

pub loop-preserved : goal.loop-preserved
loop-preserved c = tuples_on _ _ _ _ _ _ _ _ c.loop-test.true c.in-Some.ensures.some c.in_ok-tuple.ensures.read c.in_ok-push.ensures.items ∙ c.loop.invariant
