-- One tick less each time.
use Rattle.ded_ticks.proofs.ticks.+add_ticks.Given as goal

abbrev pub decreases-add_ticks : goal.decreases-add_ticks
decreases-add_ticks l = l.left
