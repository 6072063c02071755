use Rattle.std.proofs.Common.{length}
use Rattle.ded_strokes.proofs.parting.+add_stretches.Given as goal

-- proposed from what the function passes where it calls itself
abbrev pub decreases-add_stretches : goal.decreases-add_stretches
decreases-add_stretches l = length l.borders.now
