-- One number less each time.
use Rattle.ded_cells.proofs.extent.+span_at.Given as goal

abbrev pub decreases-span_at : goal.decreases-span_at
decreases-span_at l = l.number
