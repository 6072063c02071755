use Rattle.std.proofs.Common.{rules, ◌<◌, ◌/◌, length, subst}
use Rattle.std.specs.Prelude.{pos, ◌<ℤ◌}
use Rattle.ded_polygon.specs.Plane.{Spot, In}
use Rattle.ded_polygon.proofs.Places.{in_read}
use Rattle.ded_strokes.proofs.Matching.{cut_of}
use Rattle.ded_strokes.proofs.parting.parting.Goals as goal

pub returns : goal.returns
returns c =
    let P : Spot → Type 0 = λ p. pos 0 <ℤ p.den in
    let inside : length c.args.borders.now / 2 < length c.args.borders.now = search rules in
    let among : In c.index-borders-borders.result c.args.borders.now = in_read c.args.borders.now _ c.index-borders-borders.result inside c.index-borders-borders.is in
    cut_of c.args.side c.index-borders-borders.result c.args.from c.args.to c.args.borders.now c.requires.proper (subst P c.from.view_is c.from.invariant.positive) (subst P c.to.view_is c.to.invariant.positive)
    c.requires.from c.requires.to among (c.requires.crossed _ among) c.cut.result c.cut.ensures
