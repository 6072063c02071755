use Rattle.ded_polygon.proofs.Places.{in_read}
use Rattle.ded_polygon.proofs.Finding.{more_borders, found_to}
use Rattle.ded_polygon.proofs.vertices.vertices.Goals as goal

pub add_on-requires-clause-inside : goal.add_on-requires-clause-inside
add_on-requires-clause-inside c = in_read c.args.sides.now c.loop-side.side-index _ c.loop-side-test.true c.side-item.is

pub loop-side-preserved : goal.loop-side-preserved
loop-side-preserved c =
    let g = c.in_ok-add_on.ensures.grows in
    record {
      vertices = g.vertices;
      has = more_borders c.args.sides.now c.loop-side.found.items c.add_on.new.found.items c.loop-side.side-index c.side-item.result c.loop-side-test.true c.side-item.is g
          c.loop-side.invariant.has c.in_ok-add_on.ensures.has;
    }

pub returns : goal.returns
returns c = found_to c.args.sides.now c.loop-side.found.items c.loop-side.side-index c.loop-side-test.false c.loop-side.invariant.vertices c.loop-side.invariant.has
