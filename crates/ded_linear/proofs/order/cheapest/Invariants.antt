use Rattle.std.proofs.Common.{◌<◌, length}
use Rattle.ded_linear.proofs.order.cheapest.Given as goal

abbrev pub invariant-loop-i : goal.invariant-loop-i
invariant-loop-i l = l.best < length l.slots
