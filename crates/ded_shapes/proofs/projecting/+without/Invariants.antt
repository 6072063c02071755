-- One slot less each time.
use Rattle.std.proofs.Common.{length}
use Rattle.ded_shapes.proofs.projecting.+without.Given as goal

abbrev pub decreases-without : goal.decreases-without
decreases-without l = length l.slots.now
