-- One atom less each time.
use Rattle.std.proofs.Common.{length}
use Rattle.ded_figures.proofs.sight.+label_in.Given as goal

abbrev pub decreases-label_in : goal.decreases-label_in
decreases-label_in l = length l.atoms.now
