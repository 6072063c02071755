use Rattle.std.proofs.Common.{◌∙◌, sym, subst}
use Rattle.std.specs.Prelude.{pos, ◌<ℤ◌}
use Rattle.ded_polygon.specs.Plane.{Spot}
use Rattle.ded_strokes.proofs.Cuts.{cut_first, cut_second, no_bend}
use Rattle.ded_strokes.proofs.limit.PlaneLimit.cut.Goals as goal

pub returns-in-Some : goal.returns-in-Some
returns-in-Some c =
    let P : Spot → Type 0 = λ p. pos 0 <ℤ p.den in
    cut_first c.args.self c.args.other c.args.from c.args.to c.in-Some.corner (subst P c.from.view_is c.from.invariant.positive) (subst P c.to.view_is c.to.invariant.positive)
    c.requires.from c.requires.to c.in-Some.ensures
    (sym c.parts.ensures ∙ c.if-not-parts.false)

pub returns-in-Some-crossing : goal.returns-in-Some-crossing
returns-in-Some-crossing c =
    let P : Spot → Type 0 = λ p. pos 0 <ℤ p.den in
    cut_second c.args.self c.args.other c.args.from c.args.to c.in-Some-crossing.corner (subst P c.from.view_is c.from.invariant.positive) (subst P c.to.view_is c.to.invariant.positive)
    c.requires.from c.requires.to c.in-Some-crossing.ensures
    (sym c.parts.ensures ∙ c.if-not-parts.false)

pub returns : goal.returns
returns c = λ h. no_bend c.args.self c.args.other c.in_default.ensures c.in_default-crossing.ensures
