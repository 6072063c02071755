use Rattle.std.proofs.Common.{length}
use Rattle.ded_query.proofs.witness.+closed_goal.Given as goal

abbrev pub decreases-closed_goal : goal.decreases-closed_goal
decreases-closed_goal l = length l.columns.now
