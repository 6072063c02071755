-- Literals: numbers, quotients and decimals, their values in lowest terms, and what several are over.
use Rattle.std.specs.Prelude.{◌≡◌, ℕ, min, ◌*◌, ◌/◌, ◌^◌, ◌==◌, ◌||◌, nat_le, nat_lt, Bool, false, List, [], ◌∷◌, if◌then◌else◌}
use Rattle.std.specs.List.{list_any}
use Rattle.ded_num.specs.Gcd.{nat_gcd}
use Rattle.ded_terminals.specs.Symbols.{Symbol, Number, Decimal, Slash, number_of, decimal_number, decimal_power}

-- scalar = number [ "/" number ] | decimal
-- No denominator is 0.
pub data Scalar : Type 0 where
  whole : List ℕ → Scalar
  quotient : (d e : List ℕ) → (number_of e == 0) ≡ false → Scalar
  decimal : List ℕ → Scalar

-- the symbols of a scalar
abbrev pub spell_scalar : Scalar → List Symbol
spell_scalar (whole d) = Number d ∷ []
spell_scalar (quotient d e n) = Number d ∷ Slash ∷ Number e ∷ []
spell_scalar (decimal t) = Decimal t ∷ []

-- ---- values

-- a numerator and a denominator
abbrev pub Literal : Type 0
Literal = ℕ × ℕ

-- n over d in lowest terms
abbrev pub lowest : ℕ → ℕ → Literal
lowest n d = (n / nat_gcd n d, d / nat_gcd n d)

-- the value in lowest terms, where numbers are read by the function
abbrev pub literal : (ℕ → ℕ) → Scalar → Literal
literal read (whole d) = (read (number_of d), 1)
literal read (quotient d e n) = lowest (read (number_of d)) (read (number_of e))
literal read (decimal t) = lowest (read (decimal_number t)) (read (decimal_power t))

-- ---- what several are over

-- the least common multiple
abbrev pub lcm : ℕ → ℕ → ℕ
lcm m n = m / nat_gcd m n * n

-- the least common multiple of m and of the denominators of literals
abbrev pub lcm_from : ℕ → List Literal → ℕ
lcm_from m [] = m
lcm_from m (l ∷ ls) = lcm_from (lcm m l.1) ls

-- the least common multiple of the denominators, 1 of none
abbrev pub common : List Literal → ℕ
common ls = lcm_from 1 ls

-- the numerator of the literal over m
abbrev pub numerator_over : ℕ → Literal → ℕ
numerator_over m l = l.0 * (m / l.1)

-- it is above 2^96
abbrev pub is_long_over : ℕ → Literal → Bool
is_long_over m l = nat_lt (2 ^ 96) (numerator_over m l)

-- m is above 2^63 - 1, or the numerator of a literal over m is above 2^96
abbrev pub are_long_over : ℕ → List Literal → Bool
are_long_over m ls = nat_le (2 ^ 63) m || list_any (is_long_over m) ls

-- ---- readers

-- how numbers are read, what sums are over by their literals, and the numerator of a literal over that
pub record Reader : Type 0 where
  pub number : ℕ → ℕ
  pub denominator : List Literal → ℕ
  pub numerator : ℕ → Literal → ℕ

-- numbers are read as they are, and sums are over the least common multiple of the denominators of their literals
abbrev pub exact : Reader
exact = record { number = λ n. n; denominator = common; numerator = numerator_over }

-- 2^63 where the literals are long over m, and else m
abbrev pub marked_by : ℕ → List Literal → ℕ
marked_by m ls = if are_long_over m ls then 2 ^ 63 else m

-- over 2^63 all is read as 0
abbrev pub marked_numerator : ℕ → Literal → ℕ
marked_numerator m l = if nat_le (2 ^ 63) m then 0 else numerator_over m l

-- sums whose literals are long over their common denominator are over 2^63
abbrev pub marked : Reader
marked = record { number = λ n. n; denominator = λ ls. marked_by (common ls) ls; numerator = marked_numerator }

-- the number, or 2^63 where it is above that
abbrev pub capped : ℕ → ℕ
capped n = min n (2 ^ 63)

-- the least common multiple of m and of the denominators of literals, or 2^63 where it is above that
abbrev pub capped_from : ℕ → List Literal → ℕ
capped_from m [] = m
capped_from m (l ∷ ls) = capped_from (capped (lcm m l.1)) ls

-- as `marked` reads, with 2^63 for numbers and common denominators above that
abbrev pub capped_reader : Reader
capped_reader = record { number = capped; denominator = λ ls. marked_by (capped_from 1 ls) ls; numerator = marked_numerator }
