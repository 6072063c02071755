-- One number less each time.
use Rattle.ded_cells.proofs.line.+column_name.Given as goal

abbrev pub decreases-column_name : goal.decreases-column_name
decreases-column_name l = l.number
