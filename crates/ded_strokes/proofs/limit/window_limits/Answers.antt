use Rattle.std.proofs.Common.{◌∙◌, ap}
use Rattle.ded_polygon.specs.Windows.{window_planes}
use Rattle.ded_polygon.proofs.Framing.{window_read}
use Rattle.ded_strokes.specs.Bounds.{closed_limits}
use Rattle.ded_strokes.proofs.RowLimits.{four}
use Rattle.ded_strokes.proofs.limit.window_limits.Goals as goal

pub returns : goal.returns
returns c =
    four _ _ _ _ _ _ _ _ c.at_most.ensures c.at_most-2.ensures c.at_most-3.ensures c.at_most-4.ensures
    ∙ ap closed_limits (window_read _ c.window.invariant ∙ ap window_planes c.window.view_is)
