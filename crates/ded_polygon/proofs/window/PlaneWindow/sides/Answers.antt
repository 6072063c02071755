use Rattle.std.proofs.Common.{◌∙◌, ap}
use Rattle.ded_polygon.specs.Windows.{window_planes}
use Rattle.ded_polygon.proofs.Framing.{window_read}
use Rattle.ded_polygon.proofs.window.PlaneWindow.sides.Goals as goal

pub returns-clause-sides : goal.returns-clause-sides
returns-clause-sides c = window_read _ c.self.invariant ∙ ap window_planes c.self.view_is
