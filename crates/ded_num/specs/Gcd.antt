-- The greatest common divisor as a function, by Euclid's steps. `IsGcd` of std says what such a number is, and the lemma
-- `IsGcd-nat_gcd` of proofs/Gcds.antt that this function gives it.
use Rattle.std.specs.Prelude.{ℕ, suc, ◌%◌, ℤ, unsigned_abs, List, [], ◌∷◌}
use Rattle.std.proofs.Common.{zero}

-- Euclid's steps on two numbers, as many as `turns` allows: each puts the second number first, and the rest of the
-- division after it. As many turns as the second number are enough.
abbrev pub gcd_within : ℕ → ℕ → ℕ → ℕ
gcd_within zero a b = a
gcd_within (suc turns) a zero = a
gcd_within (suc turns) a (suc b) = gcd_within turns (suc b) (a % suc b)

-- the greatest number that divides both; 0 for two zeros
unfoldable pub nat_gcd : ℕ → ℕ → ℕ
nat_gcd a b = gcd_within b a b

-- the greatest common divisor of a number and of the magnitudes of all numbers of a list, taken from its front
abbrev pub gcd_from : ℕ → List ℤ → ℕ
gcd_from g [] = g
gcd_from g (z ∷ zs) = gcd_from (nat_gcd g (unsigned_abs z)) zs

-- the greatest common divisor of the magnitudes of a list; 0 where all of them are 0, as in an empty list
abbrev pub gcd_all : List ℤ → ℕ
gcd_all zs = gcd_from 0 zs
