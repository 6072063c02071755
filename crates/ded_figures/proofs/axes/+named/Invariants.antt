-- One column less each time.
use Rattle.std.proofs.Common.{length}
use Rattle.ded_figures.proofs.axes.+named.Given as goal

abbrev pub decreases-named : goal.decreases-named
decreases-named l = length l.columns.now
