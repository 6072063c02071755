use Rattle.std.proofs.Common.{◌∙◌, ap}
use Rattle.ded_polygon.specs.Plane.{Spot}
use Rattle.ded_layers.proofs.Reading.{read_x}
use Rattle.ded_layers.proofs.query.x_of.Goals as goal

pub returns : goal.returns
returns c = read_x _ c.corner.invariant ∙ ap (λ (p : Spot). record { num = p.x; den = p.den }) c.corner.view_is
