use Rattle.std.proofs.Common.{refl, sym, true≢false}
use Rattle.ded_polygon.proofs.Places.{in_read}
use Rattle.ded_polygon.proofs.Seen.{none_stops}
use Rattle.ded_polygon.proofs.arranging.stops.Goals as goal

pub returns : goal.returns
returns c = (λ h. absurd (true≢false (sym h)), λ h. absurd (none_stops c.args.sides.now c.loop-stop.stop-index c.loop-stop-test.false c.args.side c.args.from c.args.to c.loop-stop.invariant h))

pub returns-then-leads_out_of : goal.returns-then-leads_out_of
returns-then-leads_out_of c = (
  λ h. record {
    stop = c.stop-item.result;
    stop_in = in_read c.args.sides.now c.loop-stop.stop-index _ c.loop-stop-test.true c.stop-item.is;
    before = c.if-surrounds.ensures.0 refl;
    reached = c.if-touches.ensures.0 refl;
    leaves = c.if-leads_out_of.ensures.0 refl;
  },
  λ h. refl,
)
