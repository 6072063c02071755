-- A digit below 9 is the last one that changes.
use Rattle.std.proofs.Common.{◌∙◌, sym, arith}
use Rattle.ded_print.proofs.Counts.{added_here}
use Rattle.ded_print.proofs.count.add_one.Goals as goal

pub returns-then-digit-lt57-clause-digits : goal.returns-then-digit-lt57-clause-digits
returns-then-digit-lt57-clause-digits c =
    added_here c.loop-digit.digits c.loop-digit.digit-index (omega (arith, c.loop-digit-test.true, c.loop-digit.auto.digits)) c.if-digit-lt57.true ∙ sym c.loop-digit.invariant.0
