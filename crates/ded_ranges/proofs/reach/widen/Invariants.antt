use Rattle.std.proofs.Common.{◌≡◌}
use Rattle.ded_ranges.proofs.Widened.{widened}
use Rattle.ded_ranges.proofs.reach.widen.Given as goal

abbrev pub invariant-loop-i : goal.invariant-loop-i
invariant-loop-i l = l.ranges ≡ widened l.initial.ranges l.other l.i
