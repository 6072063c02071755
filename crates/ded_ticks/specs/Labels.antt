-- How times are written.
use Rattle.std.specs.Prelude.{ℕ, ◌+◌, ◌/◌, ◌%◌, nat_lt, ℤ, unsigned_abs, List, [], ◌∷◌, ◌++◌, if◌then◌else◌}
use Rattle.ded_print.specs.Numbers.{number_text}
use Rattle.ded_cells.specs.Decimals.{sign_text}

-- `0` before a number of one digit
abbrev pub zero_before : ℕ → List ℕ
zero_before n = if nat_lt n 10 then (48 ∷ []) else []

-- hours, with two digits or more
abbrev pub hours_text : ℕ → List ℕ
hours_text n = zero_before n ++ number_text n

-- so many minutes as hours and minutes, with `:` between
abbrev pub clock_text : ℕ → List ℕ
clock_text n = hours_text (n / 60) ++ (58 ∷ (48 + (n % 60) / 10) ∷ (48 + (n % 60) % 10) ∷ [])

-- z / den minutes as a time, whole minutes alone; `-` before a negative one
abbrev pub time_text : ℤ → ℤ → List ℕ
time_text z den = sign_text z ++ clock_text (unsigned_abs z / unsigned_abs den)
