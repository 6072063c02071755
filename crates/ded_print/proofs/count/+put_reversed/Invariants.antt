use Rattle.std.proofs.Common.{length}
use Rattle.ded_print.proofs.count.+put_reversed.Given as goal

abbrev pub decreases-put_reversed : goal.decreases-put_reversed
decreases-put_reversed g l = length l.bytes.now
