-- One digit less each time.
use Rattle.ded_cells.proofs.decimal.+put_digits.Given as goal

abbrev pub decreases-put_digits : goal.decreases-put_digits
decreases-put_digits l = l.left
