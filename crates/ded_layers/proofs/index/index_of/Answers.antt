use Rattle.std.proofs.Common.{◌^◌, arith}
use Rattle.ded_layers.proofs.Entered.{entry_more, past_end}
use Rattle.ded_layers.proofs.index.index_of.Goals as goal

pub returns-in_default : goal.returns-in_default
returns-in_default c = λ k h small. c.loop-i.invariant k (past_end (2 ^ 32) c.loop-i.i k c.in_default.ensures small) small

pub loop-i-preserved : goal.loop-i-preserved
loop-i-preserved c =
    entry_more (2 ^ 32) c.args.window c.args.parts.now c.loop-i.i c.index-parts-i.result c.in-Ok.id c.in_ok-reach.reach c.loop-i.index.entries c.insert.new.self.entries c.loop-i-test.true c.index-parts-i.is c.in-Ok.ensures.1 c.in_ok-reach.ensures
    c.in_ok-insert.ensures.inserted c.loop-i.invariant

pub returns : goal.returns
returns c = λ k h small. c.loop-i.invariant k (omega (arith, h, c.loop-i-test.false)) small
