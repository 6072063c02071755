-- One coefficient less each time.
use Rattle.std.proofs.Common.{length}
use Rattle.ded_cells.proofs.line.+has_two_free.Given as goal

abbrev pub decreases-has_two_free : goal.decreases-has_two_free
decreases-has_two_free l = length l.coefs.now
