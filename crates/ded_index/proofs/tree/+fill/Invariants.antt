use Rattle.std.proofs.Common.{length}
use Rattle.ded_index.proofs.tree.+fill.Given as goal

abbrev pub decreases-fill : goal.decreases-fill
decreases-fill l = length l.nodes.now
