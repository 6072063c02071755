-- Round steps, and their multiples.
use Rattle.std.specs.Prelude.{ℕ, zero, suc, ◌*◌, nat_le, ℤ, ◌*ℤ◌, List, [], ◌∷◌, if◌then◌else◌}
use Rattle.ded_axes.specs.Around.{ceiling}

-- the least of s, 2 s, 5 s, 10 s, 20 s, 50 s and so on, so many powers of ten on, of which eight are at least the extent; the extent
-- where there is none
unfoldable pub round_step_from : ℕ → ℕ → ℕ → ℕ
round_step_from zero step extent = extent
round_step_from (suc fuel) step extent =
    if nat_le extent (8 * step) then step else (if nat_le extent (16 * step) then (2 * step) else (if nat_le extent (40 * step) then (5 * step) else round_step_from fuel (10 * step) extent))

-- the least of 1, 2, 5, 10, 20, 50 and so on of which eight are at least the extent, which is at most 8 * 10 ^ 19
abbrev pub round_step : ℕ → ℕ
round_step extent = round_step_from 20 1 extent

-- the least of these steps of minutes of which eight are at least the extent, in units of 1 / den; behind them 1440 times 1, 2, 5, 10,
-- 20, 50 and so on
abbrev pub clock_step_from : List ℕ → ℕ → ℕ → ℕ
clock_step_from [] den extent = round_step_from 20 (1440 * den) extent
clock_step_from (m ∷ ms) den extent = if nat_le extent (8 * (m * den)) then (m * den) else clock_step_from ms den extent

-- steps of minutes of less than a day
abbrev pub clock_minutes : List ℕ
clock_minutes = 1 ∷ 2 ∷ 5 ∷ 10 ∷ 15 ∷ 30 ∷ 60 ∷ 120 ∷ 180 ∷ 360 ∷ 720 ∷ []

-- the least round step of minutes of which eight are at least the extent, in units of 1 / den
unfoldable pub clock_step : ℕ → ℕ → ℕ
clock_step den extent = clock_step_from clock_minutes den extent

-- the least multiple of a step that is at least a number
abbrev pub first_multiple : ℤ → ℤ → ℤ
first_multiple low step = ceiling low step *ℤ step
