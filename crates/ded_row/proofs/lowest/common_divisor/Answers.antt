use Rattle.std.specs.Int.{w128}
use Rattle.std.proofs.lemmas.Int.{to_z-of_z, fits_signed_from_abs}
use Rattle.ded_model.proofs.CoefDivision.{short_at}
use Rattle.ded_row.proofs.lowest.common_divisor.Goals as goal

pub gcd-size-requires-in-loop-coef-clause-short_b : goal.gcd-size-requires-in-loop-coef-clause-short_b
gcd-size-requires-in-loop-coef-clause-short_b c =
    let h = short_at c.args.coefs.now c.loop-coef.coef-index _ c.requires.coefs c.loop-coef-test.true in
    rw (to_z-of_z w128 _ (fits_signed_from_abs w128 _ h)) h
