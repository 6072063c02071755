use Rattle.std.proofs.Common.{List, ◌∙◌, sym, ap, subst}
use Rattle.std.specs.Prelude.{pos, ◌<ℤ◌}
use Rattle.ded_polygon.specs.Plane.{Spot}
use Rattle.ded_strokes.specs.Bounds.{PlaneLimit}
use Rattle.ded_strokes.specs.Near.{outward}
use Rattle.ded_strokes.specs.Stretches.{AreBorders, AreEnough, AddsCut, all_crossed}
use Rattle.ded_strokes.specs.declared.parting.Stretch.{Stretch}
use Rattle.ded_strokes.proofs.Borders.{are_borders}
use Rattle.ded_strokes.proofs.Idle.{near_enough}
use Rattle.ded_strokes.proofs.Stretched.{added_all}
use Rattle.ded_strokes.proofs.parting.stretches.Goals as goal

pub add_stretches-requires-clause-borders : goal.add_stretches-requires-clause-borders
add_stretches-requires-clause-borders c =
    let p = c.args.from in
    let q = c.args.to in
    subst (AreBorders c.deref-2.result.now p q)
    (ap (all_crossed p q) (c.deref-2.ensures.value ∙ sym c.deref.ensures.value) ∙ sym (c.deref-3.ensures.value ∙ c.in_ok-borders.ensures))
    (are_borders p q c.deref-2.result.now)

pub returns : goal.returns
returns c =
    let P : Spot → Type 0 = λ p. pos 0 <ℤ p.den in
    let p = c.args.from in
    let q = c.args.to in
    let hp = subst P c.from.view_is c.from.invariant.positive in
    let hq = subst P c.to.view_is c.to.invariant.positive in
    added_all c.deref-2.result.now c.args.pieces.now _ p q hp hq
    (subst (λ (few : List (List PlaneLimit)). AreEnough p q few c.args.pieces.now) (sym (c.deref-2.ensures.value ∙ c.in_ok-near.ensures)) (near_enough p q hp hq c.args.pieces.now))
    c.add_stretches.new.out.items
    (subst (λ (old : List Stretch). AddsCut c.deref-2.result.now (outward c.args.side.plane) p q old c.add_stretches.new.out.items) c.new-out.ensures.items c.in_ok-add_stretches.ensures)
