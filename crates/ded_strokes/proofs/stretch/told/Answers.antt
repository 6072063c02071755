use Rattle.std.proofs.Common.{◌∙◌, ap, sym, subst}
use Rattle.std.specs.Prelude.{pos, ◌<ℤ◌}
use Rattle.ded_polygon.specs.Plane.{Spot}
use Rattle.ded_strokes.specs.Strokes.{union_soon}
use Rattle.ded_strokes.proofs.Between.{all_seam, solid_ahead, solid_behind, all_dashed}
use Rattle.ded_strokes.proofs.stretch.told.Goals as goal

pub returns-then-not-union_between : goal.returns-then-not-union_between
returns-then-not-union_between c =
    let P : Spot → Type 0 = λ p. pos 0 <ℤ p.den in
    all_dashed c.args.pieces.now c.args.across c.args.from c.args.to (subst P c.from.view_is c.from.invariant.positive) (subst P c.to.view_is c.to.invariant.positive) c.requires
    (sym c.union_between.ensures ∙ c.if-not-union_between.true)

pub returns-then-not-union_soon : goal.returns-then-not-union_soon
returns-then-not-union_soon c =
    let P : Spot → Type 0 = λ p. pos 0 <ℤ p.den in
    solid_ahead c.args.pieces.now c.args.across c.args.from c.args.to (subst P c.from.view_is c.from.invariant.positive) (subst P c.to.view_is c.to.invariant.positive) c.requires
    (sym c.union_between.ensures ∙ c.if-not-union_between.false)
    (sym c.union_soon.ensures ∙ c.if-not-union_soon.true)

pub returns-then-not-union_soon-2 : goal.returns-then-not-union_soon-2
returns-then-not-union_soon-2 c =
    let P : Spot → Type 0 = λ p. pos 0 <ℤ p.den in
    solid_behind c.args.pieces.now c.args.across c.args.from c.args.to (subst P c.from.view_is c.from.invariant.positive) (subst P c.to.view_is c.to.invariant.positive) c.requires
    (sym c.union_between.ensures ∙ c.if-not-union_between.false)
    (ap (union_soon c.args.pieces.now c.args.from c.args.to) (sym c.turned-back.ensures) ∙ sym c.union_soon-2.ensures ∙ c.if-not-union_soon-2.true)

pub returns : goal.returns
returns c =
    let P : Spot → Type 0 = λ p. pos 0 <ℤ p.den in
    all_seam c.args.pieces.now c.args.across c.args.from c.args.to (subst P c.from.view_is c.from.invariant.positive) (subst P c.to.view_is c.to.invariant.positive) c.requires
    (sym c.union_between.ensures ∙ c.if-not-union_between.false)
    (sym c.union_soon.ensures ∙ c.if-not-union_soon.false)
    (ap (union_soon c.args.pieces.now c.args.from c.args.to) (sym c.turned-back.ensures) ∙ sym c.union_soon-2.ensures ∙ c.if-not-union_soon-2.false)
