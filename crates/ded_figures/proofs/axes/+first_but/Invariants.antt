-- One column less each time.
use Rattle.std.proofs.Common.{length}
use Rattle.ded_figures.proofs.axes.+first_but.Given as goal

abbrev pub decreases-first_but : goal.decreases-first_but
decreases-first_but l = length l.columns.now
