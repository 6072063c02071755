use Rattle.std.proofs.Common.{SFits, subst}
use Rattle.std.specs.Int.{w128}
use Rattle.std.proofs.lemmas.Int.{to_z-of_z, fits_signed_from_abs}
use Rattle.ded_model.specs.Bound.{Fraction}
use Rattle.ded_model.specs.declared.bound.Bound.TheVariants.{Included}
use Rattle.ded_ranges.specs.Reaches.{IsFloor}
use Rattle.ded_ranges.proofs.Ends.{floor_is}
use Rattle.ded_ranges.proofs.reach.floor.Goals as goal

pub returns : goal.returns
returns c =
    let n : SFits w128 c.f.inside.num = fits_signed_from_abs w128 c.f.inside.num c.f.invariant.num in
    let d : SFits w128 c.f.inside.den = fits_signed_from_abs w128 c.f.inside.den c.f.invariant.den in
    subst (λ (f : Fraction). IsFloor (Included f) c.whole.result) c.f.view_is (floor_is c.whole.result (record { num = c.f.inside.num; den = c.f.inside.den }) c.f.invariant.positive (simp to_z-of_z at c.whole.ensures.floor))
