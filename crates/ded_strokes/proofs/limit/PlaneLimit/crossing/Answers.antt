use Rattle.std.proofs.Common.{◌∙◌, ap₂, sym, subst}
use Rattle.std.specs.Prelude.{ℤ, pos, ◌<ℤ◌}
use Rattle.ded_polygon.specs.Plane.{bend, crossing}
use Rattle.ded_polygon.proofs.Short.{numerator_x, first_y, second_y, numerator_y, x_is, y_is, den_is, above_bend, short_crossing, crossing_is}
use Rattle.ded_strokes.proofs.limit.PlaneLimit.crossing.Goals as goal

pub cross-requires-clause-whole : goal.cross-requires-clause-whole
cross-requires-clause-whole c = numerator_x _ _ c.self.invariant c.other.invariant

pub cross-requires-2-clause-first : goal.cross-requires-2-clause-first
cross-requires-2-clause-first c = first_y _ _ c.self.invariant c.other.invariant

pub cross-requires-2-clause-second : goal.cross-requires-2-clause-second
cross-requires-2-clause-second c = second_y _ _ c.self.invariant c.other.invariant

pub cross-requires-2-clause-whole : goal.cross-requires-2-clause-whole
cross-requires-2-clause-whole c = numerator_y _ _ c.self.invariant c.other.invariant

pub invariant_of-result : goal.invariant_of-result
invariant_of-result c =
    let i = c.self.invariant in
    let j = c.other.invariant in
    let d = c.bend-den.ensures ∙ ap₂ (λ s t. bend s.plane t.plane) (sym c.self.view_is) (sym c.other.view_is) in
    short_crossing _ _ i j _ _ _ (x_is _ _ i j _ c.cross.ensures) (y_is _ _ i j _ c.cross-2.ensures) (den_is _ _ i j _ d) (above_bend _ _ i j _ d c.if-den-le0.false)

pub returns : goal.returns
returns c =
    let i = c.self.invariant in
    let j = c.other.invariant in
    let d = c.bend-den.ensures ∙ ap₂ (λ s t. bend s.plane t.plane) (sym c.self.view_is) (sym c.other.view_is) in
    let P : ℤ → Type 0 = λ z. pos 0 <ℤ z in (
      crossing_is _ _ i j _ _ _ (x_is _ _ i j _ c.cross.ensures) (y_is _ _ i j _ c.cross-2.ensures) (den_is _ _ i j _ d) ∙ ap₂ (λ s t. crossing s.plane t.plane) c.self.view_is c.other.view_is,
      subst P (ap₂ (λ s t. bend s.plane t.plane) c.self.view_is c.other.view_is) (above_bend _ _ i j _ d c.if-den-le0.false),
    )
