-- A denominator that isn't 1.
use Rattle.std.proofs.Common.{◌∙◌, ap}
use Rattle.std.specs.Prelude.{unsigned_abs}
use Rattle.std.specs.Int.{w128}
use Rattle.std.proofs.lemmas.Int.{to_z-of_z}
use Rattle.ded_print.specs.Numbers.{integer_text}
use Rattle.ded_print.proofs.Gathering.{puts_both, puts_as}
use Rattle.ded_print.proofs.SpanLines.{with_denominator}
use Rattle.ded_print.proofs.bounds.put_lowest.Goals as goal

pub returns-then-unsigned_abs-ne1 : goal.returns-then-unsigned_abs-ne1
returns-then-unsigned_abs-ne1 g c =
    let is = c.unsigned_abs.ensures.value ∙ ap unsigned_abs (to_z-of_z w128 c.args.den c.ranges.den) in
    let num = puts_as _ _ _ _ (ap integer_text (to_z-of_z w128 c.args.num c.ranges.num)) c.put_integer.ensures in
    let den = puts_as _ _ _ _ (ap integer_text (to_z-of_z w128 c.args.den c.ranges.den)) c.put_integer-then-unsigned_abs-ne1.ensures in
    with_denominator _ _ c.args.num c.args.den (λ e. c.if-unsigned_abs-ne1.true (is ∙ e))
    (puts_both _ _ _ _ _ num (puts_both _ _ _ _ _ c.put.ensures den))
