use Rattle.std.proofs.Common.{arith}
use Rattle.ded_terminals.proofs.Decimals.{trim_on, trim_done, trim_none}
use Rattle.ded_terminals.proofs.decimal.trimmed.Goals as goal
use Rattle.ded_terminals.proofs.decimal.trimmed.Goals.{then-loop-count-test+else-digits-count-eq48, else-loop-count-test}

pub loop-count-preserved : goal.loop-count-preserved
loop-count-preserved c = record {
  within = omega (arith, c.loop-count.invariant.within);
  same = trim_on _ _ c.loop-count-test.true c.loop-count.invariant.within c.if-digits-count-eq48.true c.loop-count.invariant.same;
}

pub returns : goal.returns
returns c = elim c.loop-count-test.branch [
  | then-loop-count-test+else-digits-count-eq48 w ↦ trim_done _ _ w.loop-count-test.true c.loop-count.invariant.within w.if-digits-count-eq48.false c.loop-count.invariant.same
  | else-loop-count-test w ↦ trim_none _ _ (omega (arith, w.loop-count-test.false)) c.loop-count.invariant.same
]
