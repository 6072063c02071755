use Rattle.std.proofs.Common.{subst}
use Rattle.std.specs.Prelude.{pos, ◌<ℤ◌}
use Rattle.ded_polygon.specs.Plane.{Spot}
use Rattle.ded_polygon.proofs.Places.{in_read}
use Rattle.ded_layers.proofs.Utmost.{utmost_by}
use Rattle.ded_layers.proofs.support.is_between.Goals as goal

pub returns-then-spans : goal.returns-then-spans
returns-then-spans c =
    let P : Spot → Type 0 = λ p. pos 0 <ℤ p.den in
    λ h. utmost_by c.args.planes.now c.args.first c.second-item.result c.args.out.plane c.args.corner c.requires.among
    (in_read c.args.planes.now c.loop-second.second-index c.second-item.result c.loop-second-test.true c.second-item.is)
    (subst P c.corner.view_is c.corner.invariant.positive) c.requires.touches c.requires.turned (c.spans.ensures c.if-spans.true)
