use Rattle.std.proofs.Common.{length}
use Rattle.ded_hull.proofs.tree.+build.Given as goal

-- proposed from what the function passes where it calls itself
abbrev pub decreases-build : goal.decreases-build
decreases-build l = length l.entries.now
