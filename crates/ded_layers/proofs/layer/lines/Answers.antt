use Rattle.ded_polygon.proofs.Places.{in_read}
use Rattle.ded_layers.specs.Layers.{pieces_of}
use Rattle.ded_layers.proofs.Listing.{part_more}
use Rattle.ded_layers.proofs.layer.lines.Goals as goal

pub loop-i-preserved : goal.loop-i-preserved
loop-i-preserved c =
    let parts = c.args.parts.now in
    let t = c.index-parts-i.result in
    part_more (pieces_of parts) parts c.loop-i.i t c.loop-i.lines.items c.add_part.new.lines.items c.loop-i-test.true c.index-parts-i.is c.loop-i.invariant
    (c.in_ok-add_part.ensures c.args.window (c.requires.within t (in_read parts c.loop-i.i t c.loop-i-test.true c.index-parts-i.is)) c.in_ok-index.ensures)
