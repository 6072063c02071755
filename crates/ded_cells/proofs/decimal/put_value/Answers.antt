-- The common divisor of a fraction isn't 0.
use Rattle.std.proofs.Common.{◌∙◌, sym, subst, rules, SFits, to_z, of_z}
use Rattle.std.specs.Int.{w128}
use Rattle.std.specs.Prelude.{pos, ◌<ℤ◌}
use Rattle.std.proofs.lemmas.Int.{to_z-of_z, fits_signed_from_abs}
use Rattle.ded_print.proofs.SpanLines.{divisor_above}
use Rattle.ded_cells.proofs.decimal.put_value.Goals as goal

pub quotient-num-requires-clause-nonzero : goal.quotient-num-requires-clause-nonzero
quotient-num-requires-clause-nonzero c =
    let fits : SFits w128 c.gcd-by.result = search rules in
    let den = to_z w128 (of_z w128 c.value.inside.den) in
    let positive : pos 0 <ℤ den = subst (λ z. pos 0 <ℤ z) (sym (to_z-of_z w128 c.value.inside.den (fits_signed_from_abs w128 c.value.inside.den c.value.invariant.den))) c.value.invariant.positive in
    λ e. divisor_above _ den c.gcd-by.result positive c.gcd-by.ensures.greatest (sym (to_z-of_z w128 c.gcd-by.result fits) ∙ e)

pub quotient-den-requires-clause-nonzero : goal.quotient-den-requires-clause-nonzero
quotient-den-requires-clause-nonzero c =
    let fits : SFits w128 c.gcd-by.result = search rules in
    let den = to_z w128 (of_z w128 c.value.inside.den) in
    let positive : pos 0 <ℤ den = subst (λ z. pos 0 <ℤ z) (sym (to_z-of_z w128 c.value.inside.den (fits_signed_from_abs w128 c.value.inside.den c.value.invariant.den))) c.value.invariant.positive in
    λ e. divisor_above _ den c.gcd-by.result positive c.gcd-by.ensures.greatest (sym (to_z-of_z w128 c.gcd-by.result fits) ∙ e)
