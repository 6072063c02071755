-- What the library writes is the number's text.
use Rattle.std.proofs.Common.{◌≡◌, ℕ, ◌^◌, ◌<◌, ap, List, ◌∷◌, suc, arith, SFits}
use Rattle.std.specs.Prelude.{ℤ, pos, negsuc}
use Rattle.std.specs.Int.{w128}
use Rattle.std.specs.Fmt.{decimal, signed_decimal, digits}
use Rattle.ded_print.specs.Numbers.{number_text, integer_text, count_text}
use Rattle.ded_print.proofs.Numerals.{count_is}

-- up to 64 digits, so also of a `u128`
pub decimal_is : (n : ℕ) → n < 10 ^ 64 → decimal n ≡ number_text n
unfolding count_text digits
decimal_is n h = count_is n h

pub signed_is : (z : ℤ) → SFits w128 z → signed_decimal z ≡ integer_text z
signed_is (pos n) h = decimal_is n (omega (arith, h.sfits))
signed_is (negsuc n) h = ap (λ (t : List ℕ). 45 ∷ t) (decimal_is (suc n) (omega (arith, h.sfits)))
