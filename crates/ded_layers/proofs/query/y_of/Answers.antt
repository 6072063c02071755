use Rattle.std.proofs.Common.{◌∙◌, ap}
use Rattle.ded_polygon.specs.Plane.{Spot}
use Rattle.ded_layers.proofs.Reading.{read_y}
use Rattle.ded_layers.proofs.query.y_of.Goals as goal

pub returns : goal.returns
returns c = read_y _ c.corner.invariant ∙ ap (λ (p : Spot). record { num = p.y; den = p.den }) c.corner.view_is
