-- How values are written in a table: as a decimal where that has at most 9 digits behind the point, and else as a fraction.
use Rattle.std.specs.Prelude.{ℕ, zero, suc, ◌+◌, ◌-◌, ◌*◌, ◌/◌, ◌%◌, ◌<◌, ◌≤◌, ◌==◌, nat_le, ℤ, pos, int_lt, int_div, unsigned_abs, Bool, ◌&&◌, List, [], ◌∷◌, ◌++◌, if◌then◌else◌}
use Rattle.ded_model.specs.Bound.{Fraction}
use Rattle.ded_print.specs.Numbers.{number_text, fraction_text, common_divisor}

-- the digits behind the point of r/d, which is less than 1: at most so many, and none behind the last that isn't 0
unfoldable pub digits_behind : ℕ → ℕ → ℕ → List ℕ
digits_behind zero r d = []
digits_behind (suc k) r d = if r == 0 then [] else ((48 + (10 * r) / d) ∷ digits_behind k ((10 * r) % d) d)

-- a number over d, in lowest terms, has at most 9 digits behind the point: d divides 10^9
abbrev pub has_decimal : ℕ → Bool
has_decimal d = nat_le 1 d && (nat_le d 1000000000 && 1000000000 % d == 0)

-- the point and the digits behind it, of a number without whole part
abbrev pub behind_text : ℕ → ℕ → List ℕ
behind_text r d = if r == 0 then [] else (46 ∷ digits_behind 9 r d)

-- a magnitude n/d as a decimal
abbrev pub magnitude_text : ℕ → ℕ → List ℕ
magnitude_text n d = number_text (n / d) ++ behind_text (n % d) d

-- `-` before a negative number
abbrev pub sign_text : ℤ → List ℕ
sign_text z = if int_lt z (pos 0) then (45 ∷ []) else []

-- a fraction in lowest terms as a decimal
abbrev pub decimal_text : ℤ → ℤ → List ℕ
decimal_text num den = sign_text num ++ magnitude_text (unsigned_abs num) (unsigned_abs den)

-- as a decimal where the denominator has one, and else in lowest terms as `n/d`
abbrev pub lowest_value_text : ℤ → ℤ → List ℕ → List ℕ
lowest_value_text num den otherwise = if has_decimal (unsigned_abs den) then decimal_text num den else otherwise

-- a value
abbrev pub value_text : Fraction → List ℕ
value_text f = lowest_value_text (int_div f.num (common_divisor f)) (int_div f.den (common_divisor f)) (fraction_text f)

-- ---- what digits say

-- the byte is a decimal digit
abbrev pub IsDigit : ℕ → Type 0
IsDigit b = (48 ≤ b) × (b < 58)

-- digits behind others that read as this number, read together with them
abbrev pub digits_number : ℕ → List ℕ → ℕ
digits_number n [] = n
digits_number n (b ∷ bs) = digits_number (10 * n + (b - 48)) bs
