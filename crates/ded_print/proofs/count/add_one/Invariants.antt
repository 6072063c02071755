-- The digits before this one are written.
use Rattle.std.proofs.Common.{◌≡◌, ◌++◌, take, drop}
use Rattle.ded_print.specs.Counts.{added, carries}
use Rattle.ded_print.proofs.count.add_one.Given as goal

abbrev pub invariant-loop-digit : goal.invariant-loop-digit
invariant-loop-digit l =
    (added l.fn.digits ≡ take l.digit-index l.digits ++ added (drop l.digit-index l.digits))
    × (carries l.fn.digits ≡ carries (drop l.digit-index l.digits))
