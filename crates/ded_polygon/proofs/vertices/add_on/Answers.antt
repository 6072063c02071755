use Rattle.ded_polygon.proofs.Places.{in_read}
use Rattle.ded_polygon.proofs.Finding.{grows_then, more_crossings}
use Rattle.ded_polygon.proofs.vertices.add_on.Goals as goal

pub add_crossing-requires-clause-other_inside : goal.add_crossing-requires-clause-other_inside
add_crossing-requires-clause-other_inside c = in_read c.args.sides.now c.loop-other.other-index _ c.loop-other-test.true c.other-item.is

pub loop-other-preserved : goal.loop-other-preserved
loop-other-preserved c =
    let g = c.in_ok-add_crossing.ensures.grows in
    record {
      grows = grows_then c.args.sides.now c.args.found.now.items c.loop-other.found.items c.add_crossing.new.found.items c.loop-other.invariant.grows g;
      has = more_crossings c.args.sides.now c.loop-other.found.items c.add_crossing.new.found.items c.args.side c.loop-other.other-index c.other-item.result c.loop-other-test.true c.other-item.is g
          c.loop-other.invariant.has c.in_ok-add_crossing.ensures.has;
    }
