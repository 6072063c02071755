use Rattle.std.proofs.Common.{List, subst, ◌++◌, ◌≡◌}
use Rattle.std.specs.Prelude.{pos, ◌<ℤ◌, OnOk}
use Rattle.ded_polygon.specs.Plane.{Spot}
use Rattle.ded_strokes.specs.Stretches.{lines_of}
use Rattle.ded_strokes.specs.declared.parting.Stretch.{Stretch}
use Rattle.ded_layers.proofs.Listing.{drawn_side}
use Rattle.ded_layers.proofs.layer.add_side.Goals as goal

pub returns : goal.returns
returns c = λ pieces enough.
    (let P : Spot → Type 0 = λ p. pos 0 <ℤ p.den in
    drawn_side c.args.near.now pieces c.args.own.now c.args.from c.args.to c.in-Some.side c.in_ok-cut.cut.items c.args.lines.now.items c.add_lines.new.lines.items
    (subst P c.from.view_is c.from.invariant.positive) (subst P c.to.view_is c.to.invariant.positive) enough c.in-Some.ensures c.in_ok-cut.ensures c.add_lines.result
    (subst (λ (ss : List Stretch). OnOk c.add_lines.result (c.add_lines.new.lines.items ≡ c.args.lines.now.items ++ lines_of ss)) c.deref.ensures.value c.add_lines.ensures))
