-- How far steps reach, and where their multiples begin and end.
use Rattle.std.proofs.Common.{◌≡◌, ◌<◌, ◌≤◌, ℕ, zero, suc, ◌*◌, Bool, true, false, refl, List, [], ◌∷◌, arith}
use Rattle.std.specs.Prelude.{nat_le, ℤ, pos, negsuc, ◌+ℤ◌, ◌-ℤ◌, ◌*ℤ◌, ◌<ℤ◌, ◌≤ℤ◌, neg_ℤ, unsigned_abs, if◌then◌else◌}
use Rattle.std.proofs.lemmas.Bool.Decides.{nat_tests}
use Rattle.std.proofs.lemmas.Int.{ints}
use Rattle.ded_axes.specs.Around.{floor}
use Rattle.ded_axes.proofs.Floors.{is_floor}
use Rattle.ded_ticks.specs.Steps.{clock_minutes, clock_step, clock_step_from, first_multiple, round_step, round_step_from}

-- ---- eight steps

either : (b : Bool) (e p x y : ℕ) → nat_le e p ≡ b → p ≡ 8 * x → e ≤ 8 * y → e ≤ 8 * (if b then x else y)
either true e p x y test is h = let k : e ≤ p = grind (arith, nat_tests, test) in omega (arith, k, is)
either false e p x y test is h = h

pub numbers_from : (k s e : ℕ) → e ≤ 8 * round_step_from k s e
unfolding round_step_from
numbers_from zero s e = omega arith
numbers_from (suc k) s e =
    either (nat_le e (8 * s)) e (8 * s) s _ refl refl
    (either (nat_le e (16 * s)) e (16 * s) (2 * s) _ refl (omega arith) (either (nat_le e (40 * s)) e (40 * s) (5 * s) _ refl (omega arith) (numbers_from k (10 * s) e)))

pub numbers : (e : ℕ) → e ≤ 8 * round_step e
numbers e = numbers_from 20 1 e

times_from : (ms : List ℕ) (den e : ℕ) → e ≤ 8 * clock_step_from ms den e
times_from [] den e = numbers_from 20 (1440 * den) e
times_from (m ∷ ms) den e = either (nat_le e (8 * (m * den))) e (8 * (m * den)) (m * den) (clock_step_from ms den e) refl refl (times_from ms den e)

pub times : (den e : ℕ) → e ≤ 8 * clock_step den e
unfolding clock_step
times den e = times_from clock_minutes den e

-- ---- the first multiple, which is a rest above the number
rest_above : (low q : ℤ) (n r : ℕ) → neg_ℤ low ≡ q *ℤ pos n +ℤ pos r → neg_ℤ q *ℤ pos n ≡ low +ℤ pos r
rest_above low (pos zero) n r is = omega (arith, ints, is)
rest_above low (pos (suc a)) n r is = omega (arith, ints, is)
rest_above low (negsuc a) n r is = omega (arith, ints, is)

at_least : (a low : ℤ) (r : ℕ) → a ≡ low +ℤ pos r → low ≤ℤ a
at_least a low r is = omega (arith, ints, is)

less_than : (a low : ℤ) (r n : ℕ) → a ≡ low +ℤ pos r → r < n → a <ℤ (low +ℤ pos n)
less_than a low r n is less = omega (arith, ints, is, less)

pub first_from : (low : ℤ) (step : ℕ) → 0 < step → low ≤ℤ first_multiple low (pos step)
first_from low n some =
    let f = is_floor (neg_ℤ low) n some in
    at_least (first_multiple low (pos n)) low f.rest (rest_above low (floor (neg_ℤ low) (pos n)) n f.rest f.is)

pub first_least : (low : ℤ) (step : ℕ) → 0 < step → first_multiple low (pos step) <ℤ (low +ℤ pos step)
first_least low n some =
    let f = is_floor (neg_ℤ low) n some in
    less_than (first_multiple low (pos n)) low f.rest n (rest_above low (floor (neg_ℤ low) (pos n)) n f.rest f.is) f.less

-- ---- nine steps behind it
behind : (first low high : ℤ) (n : ℕ) → low <ℤ high → unsigned_abs (high -ℤ low) ≤ 8 * n → low ≤ℤ first → high <ℤ (first +ℤ pos (9 * n))
behind first low high n order reach from = omega (arith, ints, order, reach, from)

positive : (low high : ℤ) (n : ℕ) → low <ℤ high → unsigned_abs (high -ℤ low) ≤ 8 * n → 0 < n
positive low high n order reach = omega (arith, ints, order, reach)

pub last_behind : (low high : ℤ) (step : ℕ) → low <ℤ high → unsigned_abs (high -ℤ low) ≤ 8 * step → high <ℤ (first_multiple low (pos step) +ℤ pos (9 * step))
last_behind low high n order reach = behind (first_multiple low (pos n)) low high n order reach (first_from low n (positive low high n order reach))
