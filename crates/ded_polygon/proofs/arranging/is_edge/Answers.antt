use Rattle.std.proofs.Common.{refl}
use Rattle.ded_polygon.proofs.Places.{in_read}
use Rattle.ded_polygon.proofs.Seen.{none_leads, edge_along}
use Rattle.ded_polygon.proofs.arranging.is_edge.Goals as goal

pub returns-clause-none : goal.returns-clause-none
returns-clause-none c = λ h. absurd (none_leads c.args.sides.now c.loop-side.side-index c.loop-side-test.false c.args.from c.args.to c.loop-side.invariant h)

pub returns-then-stops-clause-edge : goal.returns-then-stops-clause-edge
returns-then-stops-clause-edge c =
    λ h. edge_along c.args.sides.now c.side-item.result c.args.from c.args.to (in_read c.args.sides.now c.loop-side.side-index _ c.loop-side-test.true c.side-item.is)
    (c.if-touches.ensures.0 refl) (c.if-touches-2.ensures.0 refl) (c.if-stops.ensures.0 refl)
