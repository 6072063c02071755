-- How numbers are written.
use Rattle.std.specs.Prelude.{ℕ, suc, ◌+◌, ◌/◌, ◌^◌, ◌==◌, ℤ, pos, negsuc, int_div, unsigned_abs, false, List, [], ◌∷◌, ◌++◌, if◌then◌else◌}
use Rattle.std.specs.Fmt.{digits_onto}
use Rattle.ded_num.specs.Gcd.{nat_gcd}
use Rattle.ded_model.specs.Bound.{Fraction}

-- in decimal, without leading zeros: what `{}` writes. A number has at most 64 digits and one more for each 10^64 in it
unfoldable pub number_text : ℕ → List ℕ
number_text n = digits_onto (64 + n / 10 ^ 64) 10 false n []

-- in decimal as well, but of more than 64 digits the last 64
unfoldable pub count_text : ℕ → List ℕ
count_text n = digits_onto 64 10 false n []

-- a negative one with `-` directly before its digits
abbrev pub integer_text : ℤ → List ℕ
integer_text (pos n) = number_text n
integer_text (negsuc n) = 45 ∷ number_text (suc n)

-- a fraction in lowest terms, as `n/d`, or `n` where d is 1
abbrev pub lowest_text : ℤ → ℤ → List ℕ
lowest_text num den = if unsigned_abs den == 1 then integer_text num else (integer_text num ++ (47 ∷ integer_text den))

-- what both numbers of a fraction are divided by
abbrev pub common_divisor : Fraction → ℤ
common_divisor f = pos (nat_gcd (unsigned_abs f.num) (unsigned_abs f.den))

-- a fraction, brought to lowest terms
abbrev pub fraction_text : Fraction → List ℕ
fraction_text f = lowest_text (int_div f.num (common_divisor f)) (int_div f.den (common_divisor f))
