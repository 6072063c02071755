use Rattle.ded_ranges.proofs.Terms.{AreInOrder}
use Rattle.ded_ranges.proofs.reach.Reach.in_order.Given as goal

abbrev pub invariant-loop-place : goal.invariant-loop-place
invariant-loop-place l = AreInOrder l.self l.place l.ranges.items
