-- The ends with their margins, as they are read.
use Rattle.ded_axes.proofs.Units.{same_frame, low_read, high_read, den_read}
use Rattle.ded_axes.proofs.around.framed.Goals as goal

pub returns : goal.returns
returns c =
    let x = c.widened-left.ensures in
    let y = c.widened-bottom.ensures in
    same_frame _ _ _ _ _ _ _ _ _ _
    (low_read c.args.x.low c.args.margin c.widened-left.result.0 c.requires.margin x.short_low x.low)
    (high_read c.args.x.high c.args.margin c.widened-left.result.1 c.requires.margin x.short_high x.high)
    (low_read c.args.y.low c.args.margin c.widened-bottom.result.0 c.requires.margin y.short_low y.low)
    (high_read c.args.y.high c.args.margin c.widened-bottom.result.1 c.requires.margin y.short_high y.high)
    (den_read c.args.den c.requires.den)
