use Rattle.ded_ranges.proofs.Terms.{one_more}
use Rattle.ded_ranges.proofs.reach.Reach.everywhere.Goals as goal

pub loop-preserved : goal.loop-preserved
loop-preserved c = one_more c.loop.ranges.items c.push.new.self.items c.loop.counter c.everywhere.result c.loop.invariant c.everywhere.ensures c.in_ok-push.ensures.ok
