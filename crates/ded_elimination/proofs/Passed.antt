-- A coefficient as the code compares it with 0.
use Rattle.std.proofs.Common.{◌≡◌, true, arith, sym, ap, ◌∙◌, to_z, of_z}
use Rattle.std.specs.Prelude.{ℤ, pos, ◌<ℤ◌}
use Rattle.std.specs.Int.{w128}
use Rattle.std.proofs.lemmas.Int.{ints, to_z-of_z, fits_signed_from_abs}
use lib.Signed.{lt_z}
use Rattle.ded_num.specs.Length.{IsShort}

-- as it is passed on
pub back : (z v : ℤ) → IsShort z → z ≡ v → to_z w128 (of_z w128 z) ≡ v
back z v h e = to_z-of_z w128 z (fits_signed_from_abs w128 z h) ∙ e

-- it is 0
pub is_zero : (z v : ℤ) → IsShort z → z ≡ v → of_z w128 z ≡ 0 → v ≡ pos 0
is_zero z v h e q = sym (back z v h e) ∙ ap (to_z w128) q

-- it is below 0
pub is_below : (z v : ℤ) → IsShort z → z ≡ v → lt_z (to_z w128 (of_z w128 z)) (pos 0) ≡ true → v <ℤ pos 0
is_below z v h e q = below v (ap (λ w. lt_z w (pos 0)) (sym (back z v h e)) ∙ q)
  where
    below : (v : ℤ) → lt_z v (pos 0) ≡ true → v <ℤ pos 0
    below v q = grind (arith, ints)
