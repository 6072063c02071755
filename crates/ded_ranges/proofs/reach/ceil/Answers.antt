use Rattle.std.proofs.Common.{rules, SFits, subst}
use Rattle.std.specs.Prelude.{neg_ℤ}
use Rattle.std.specs.Int.{w128}
use Rattle.std.proofs.lemmas.Int.{to_z-of_z, fits_signed_from_abs}
use Rattle.ded_model.specs.Bound.{Fraction}
use Rattle.ded_model.specs.declared.bound.Bound.TheVariants.{Included}
use Rattle.ded_ranges.specs.Reaches.{IsCeil}
use Rattle.ded_ranges.proofs.Ends.{ceil_is, units_are}
use Rattle.ded_ranges.proofs.reach.ceil.Goals as goal

pub returns-in-Some : goal.returns-in-Some
returns-in-Some c =
    let n : SFits w128 c.f.inside.num = fits_signed_from_abs w128 c.f.inside.num c.f.invariant.num in
    let d : SFits w128 c.f.inside.den = fits_signed_from_abs w128 c.f.inside.den c.f.invariant.den in
    let r : SFits w128 c.directed.result = search rules in
    let u : SFits w128 c.in-Some.units = search rules in
    subst (λ (f : Fraction). IsCeil (Included f) c.negative.result) c.f.view_is
    (ceil_is c.negative.result c.in-Some.units (record { num = c.f.inside.num; den = c.f.inside.den }) c.f.invariant.positive
    (units_are c.whole.result c.in-Some.units c.f.inside.den c.directed.result (neg_ℤ c.f.inside.num) (simp to_z-of_z at c.whole.ensures.floor) c.in-Some.is (simp to_z-of_z at c.directed.ensures)) (simp to_z-of_z at c.negative.ensures))
