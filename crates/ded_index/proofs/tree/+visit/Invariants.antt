use Rattle.std.proofs.Common.{length}
use Rattle.ded_index.proofs.tree.+visit.Given as goal

abbrev pub decreases-visit : goal.decreases-visit
decreases-visit g l = length l.nodes.now
