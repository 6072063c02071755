use Rattle.std.proofs.Common.{◌≡◌, drop}
use Rattle.ded_ranges.specs.Limits.{least, turn, least_of}
use Rattle.ded_ranges.specs.Tuples.{terms_of}
use Rattle.ded_ranges.proofs.limit.least_at.Given as goal

abbrev pub invariant-loop-i : goal.invariant-loop-i
invariant-loop-i l = least l.reach (turn l.flipped (terms_of (drop l.i l.coefs))) l.sum ≡ least_of l.reach (terms_of l.coefs) l.constant l.flipped
