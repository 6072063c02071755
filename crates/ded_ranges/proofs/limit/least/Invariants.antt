use Rattle.std.proofs.Common.{◌≡◌, drop}
use Rattle.ded_ranges.specs.Limits.{least, turn, least_of}
use Rattle.ded_ranges.proofs.limit.least.Given as goal

abbrev pub invariant-loop-i : goal.invariant-loop-i
invariant-loop-i l = least l.reach (turn l.flipped (drop l.i l.terms)) l.sum ≡ least_of l.reach l.terms l.constant l.flipped
