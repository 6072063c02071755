-- One exponent less each time.
use Rattle.ded_axes.proofs.around.+exponent_from.Given as goal

abbrev pub decreases-exponent_from : goal.decreases-exponent_from
decreases-exponent_from l = l.left
