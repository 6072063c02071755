use Rattle.std.proofs.Common.{sym, ◌≡◌, ◌∙◌, ap}
use Rattle.ded_polygon.specs.Lists.{spot_in, origin}
use Rattle.ded_polygon.proofs.Places.{read_as}
use Rattle.ded_layers.proofs.Listing.{side_more, enough_at}
use Rattle.ded_layers.proofs.layer.add_sides.Goals as goal

pub loop-k-preserved : goal.loop-k-preserved
loop-k-preserved c = λ pieces enough.
    (let cs = c.args.corners.now in
    let k = c.loop-k.k in
    let p = c.index-corners-k.result in
    let q = c.index-corners-after.result in
    let ep : spot_in cs k ≡ p = read_as cs k p origin c.loop-k-test.true c.index-corners-k.is in
    let eq : spot_in cs c.after.result ≡ q = read_as cs c.after.result q origin c.after.ensures.inside c.index-corners-after.is in
    side_more pieces c.args.own.now cs k p q c.args.lines.now.items c.loop-k.lines.items c.add_side.new.lines.items ep (ap (spot_in cs) (sym c.after.ensures.place) ∙ eq) (c.loop-k.invariant pieces enough)
    (c.in_ok-add_side.ensures pieces (enough_at cs c.args.near.now pieces enough k c.after.result c.loop-k-test.true c.after.ensures.inside p q ep eq)))
