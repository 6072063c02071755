use Rattle.std.proofs.Common.{List, ◌<◌, length, ◌∙◌, sym, subst}
use Rattle.std.specs.Prelude.{pos, ◌<ℤ◌}
use Rattle.ded_polygon.specs.Plane.{Spot}
use Rattle.ded_strokes.specs.Bounds.{PlaneLimit}
use Rattle.ded_strokes.specs.Stretches.{AreBorders}
use Rattle.ded_strokes.proofs.Borders.{not_parted, fewer_before, fewer_behind, part_borders}
use Rattle.ded_strokes.proofs.Stretched.{adds_next}
use Rattle.ded_strokes.proofs.parting.+add_stretches.Goals as goal

pub add_whole-requires : goal.add_whole-requires
add_whole-requires t c =
    not_parted c.args.pieces.now c.args.from c.args.to (subst (AreBorders c.args.pieces.now c.args.from c.args.to) c.in_default.ensures c.requires.borders)

pub add_stretches-requires : goal.add_stretches-requires
add_stretches-requires t c =
    let p = c.args.from in
    let d = c.in-Some.corner in
    let cut = c.in-Some.ensures in
    let is = sym (c.deref.ensures.value ∙ c.in_ok-front.ensures) in
    let less : length c.deref.result.now < length c.args.borders.now = subst (λ (bs : List PlaneLimit). length bs < length c.args.borders.now) is (fewer_before p d c.args.borders.now cut.0 cut.1 cut.2.on_other) in (
      subst (λ n. length c.deref.result.now < n) c.decreases less,
      (
        c.requires.proper,
        (
          c.requires.from,
          (
            cut.2.on_side,
            subst (AreBorders c.args.pieces.now p d) is (part_borders c.args.pieces.now p c.args.to p d c.args.borders.now c.requires.borders cut.2.before),
          ),
        ),
      ),
    )

pub add_stretches-requires-2 : goal.add_stretches-requires-2
add_stretches-requires-2 t c =
    let q = c.args.to in
    let d = c.in-Some.corner in
    let cut = c.in-Some.ensures in
    let is = sym (c.deref-2.ensures.value ∙ c.in_ok-back.ensures) in
    let less : length c.deref-2.result.now < length c.args.borders.now = subst (λ (bs : List PlaneLimit). length bs < length c.args.borders.now) is (fewer_behind q d c.args.borders.now cut.0 cut.1 cut.2.on_other) in (
      subst (λ n. length c.deref-2.result.now < n) c.decreases less,
      (
        c.requires.proper,
        (
          cut.2.on_side,
          (
            c.requires.to,
            subst (AreBorders c.args.pieces.now d q) is (part_borders c.args.pieces.now c.args.from q d q c.args.borders.now c.requires.borders cut.2.behind),
          ),
        ),
      ),
    )

pub returns : goal.returns
returns t c =
    let P : Spot → Type 0 = λ p. pos 0 <ℤ p.den in
    let cut = c.in-Some.ensures in
    adds_next c.args.pieces.now _ c.args.from c.args.to c.in-Some.corner c.args.out.now.items c.add_stretches.new.out.items c.add_stretches-2.new.out.items
    (subst P c.corner.view_is c.corner.invariant.positive) cut.2.inside c.in_ok-add_stretches.ensures c.add_stretches-2.result c.add_stretches-2.ensures
