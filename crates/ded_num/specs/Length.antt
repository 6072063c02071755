-- How long a whole number is: the count of binary digits of its magnitude.
use Rattle.std.specs.Prelude.{ℕ, ◌^◌, ◌<◌, ℤ, unsigned_abs, length}
use Rattle.std.specs.Int.Digits.{digits_of}

-- the count of binary digits of the magnitude; that of 0 is 0
unfoldable pub length_of : ℤ → ℕ
length_of z = length (digits_of 2 (unsigned_abs z))

-- at most k binary digits, that is, a magnitude below 2 ^ k (proofs/Lengths.antt: exactly where `length_of z ≤ k`)
abbrev pub IsWithin : ℕ → ℤ → Type 0
IsWithin k z = unsigned_abs z < 2 ^ k

-- short enough to work with: at most 127 binary digits, so that the number and its negative are both an `i128`
abbrev pub IsShort : ℤ → Type 0
IsShort z = IsWithin 127 z
