use Rattle.std.proofs.Common.{length}
use Rattle.ded_linear.proofs.bounding.+bounds_past.Given as goal

abbrev pub decreases-bounds_past : goal.decreases-bounds_past
decreases-bounds_past g l = length l.others.items
