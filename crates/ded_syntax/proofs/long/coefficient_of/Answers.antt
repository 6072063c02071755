use Rattle.std.proofs.Common.{◌<◌, sym, subst, arith}
use Rattle.std.specs.Prelude.{◌^◌, ℤ, unsigned_abs}
use Rattle.std.specs.Int.{w128}
use Rattle.std.proofs.lemmas.Int.{to_z-of_z, fits_signed_from_abs}
use Rattle.ded_syntax.proofs.LongLists.{coefficient_within}
use Rattle.ded_syntax.proofs.long.coefficient_of.Goals as goal

pub returns-in-Sum-clause-short : goal.returns-in-Sum-clause-short
returns-in-Sum-clause-short c =
    let z : ℤ = c.coefficient.result in
    let small : unsigned_abs z < 2 ^ 112 = subst (λ (x : ℤ). unsigned_abs x < 2 ^ 112) (sym c.coefficient.ensures) (coefficient_within _ c.args.name.now c.term.invariant.parts) in
    subst (λ (x : ℤ). unsigned_abs x < 2 ^ 112) (sym (to_z-of_z w128 z (fits_signed_from_abs w128 z (omega (arith, small))))) small
