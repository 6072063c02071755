use Rattle.std.proofs.Common.{◌∙◌}
use Rattle.ded_readback.proofs.Loops.{terms_on, terms_done}
use Rattle.ded_readback.proofs.terms.terms.Goals as goal

pub returns-in_default : goal.returns-in_default
returns-in_default c = terms_done _ _ _ _ _ c.loop-test.true c.in_default.ensures.none ∙ c.loop.invariant

pub loop-preserved : goal.loop-preserved
loop-preserved c = terms_on _ _ _ _ _ _ _ c.loop-test.true c.in-Some.ensures.some c.in_ok-push-2.ensures.items ∙ c.loop.invariant
