-- One byte less each time.
use Rattle.std.proofs.Common.{length}
use Rattle.ded_axes.proofs.reading.+digits.Given as goal

abbrev pub decreases-digits : goal.decreases-digits
decreases-digits l = length l.text.now
