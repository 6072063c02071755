-- Coordinates in whole hundredths of a unit, and how they are written.
use Rattle.std.specs.Prelude.{ℕ, ◌+◌, ◌-◌, ◌*◌, ◌/◌, ◌%◌, ◌≤◌, ◌==◌, nat_le, ℤ, pos, ◌*ℤ◌, ◌-ℤ◌, neg_ℤ, int_lt, unsigned_abs, List, [], ◌∷◌, ◌++◌, if◌then◌else◌}
use Rattle.ded_model.specs.Bound.{Fraction}
use Rattle.ded_print.specs.Numbers.{number_text}

-- the whole number nearest to m/d, the greater of two that are as near
abbrev pub nearest : ℕ → ℕ → ℕ
nearest m d = if nat_le d (2 * (m % d)) then (m / d + 1) else (m / d)

-- a number with the sign of z
abbrev pub with_sign_of : ℤ → ℕ → ℤ
with_sign_of z n = if int_lt z (pos 0) then neg_ℤ (pos n) else pos n

-- the whole number nearest to z/d, and of two that are as near the one farther from 0
abbrev pub nearest_whole : ℤ → ℤ → ℤ
nearest_whole z d = with_sign_of z (nearest (unsigned_abs z) (unsigned_abs d))

-- a number in hundredths
abbrev pub hundredths_of : Fraction → ℤ
hundredths_of f = nearest_whole (f.num *ℤ pos 100) f.den

-- So many hundredths are within one half of a hundredth of the number.
abbrev pub IsNear : Fraction → ℤ → Type 0
IsNear f h = 2 * unsigned_abs (h *ℤ f.den -ℤ f.num *ℤ pos 100) ≤ unsigned_abs f.den

-- `-` before a negative number
abbrev pub sign_text : ℤ → List ℕ
sign_text z = if int_lt z (pos 0) then (45 ∷ []) else []

-- so many hundredths, with two digits behind the point
abbrev pub magnitude_text : ℕ → List ℕ
magnitude_text n = number_text (n / 100) ++ (46 ∷ (48 + (n / 10) % 10) ∷ (48 + n % 10) ∷ [])

-- a coordinate
abbrev pub coordinate_text : ℤ → List ℕ
coordinate_text z = sign_text z ++ magnitude_text (unsigned_abs z)

-- ---- what is read of a written coordinate

-- digits behind others that read as this number, read together with them; the point is passed over
abbrev pub digits_read : ℕ → List ℕ → ℕ
digits_read n [] = n
digits_read n (b ∷ bs) = if b == 46 then digits_read n bs else digits_read (10 * n + (b - 48)) bs

-- a decimal with two digits behind the point, in hundredths
abbrev pub hundredths_read : List ℕ → ℤ
hundredths_read [] = pos 0
hundredths_read (b ∷ bs) = if b == 45 then neg_ℤ (pos (digits_read 0 bs)) else pos (digits_read 0 (b ∷ bs))
