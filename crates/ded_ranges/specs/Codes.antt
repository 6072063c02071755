-- Codes of ends: a number of units is its own code up to 2 to the power of 62, codes beyond stand for whole numbers, and one for no end.
use Rattle.std.specs.Prelude.{◌-◌, ◌^◌, ◌+ℤ◌, ◌-ℤ◌, ◌*ℤ◌, ◌≤ℤ◌, ℕ, ℤ, pos, Bool, true, false, int_lt, int_le, if◌then◌else◌, Option, Some, None}
use lib.IntN.{neg_ℤ}
use Rattle.std.specs.Int.{int_div_euclid}
use Rattle.std.specs.Ordering.{int_eq}

-- how many units are 1
abbrev pub fine : ℕ
fine = 2 ^ 32

-- codes above it stand for whole numbers, and so do those below its negative
abbrev pub edge : ℤ
edge = pos (2 ^ 62)

-- how far the code of a whole number is from it
abbrev pub shift : ℤ
shift = pos (2 ^ 62 - 2 ^ 30)

-- the code of no end
abbrev pub lowest : ℤ
lowest = neg_ℤ (pos (2 ^ 63))

-- the units that a code stands for
unfoldable pub units_of : ℤ → ℤ
units_of c = if int_lt c (neg_ℤ edge) then pos fine *ℤ (c +ℤ shift) else (if int_lt edge c then pos fine *ℤ (c -ℤ shift) else c)

-- the code of so many units, or of the whole number below
unfoldable pub code_of : ℤ → ℤ
code_of k = if int_lt k (neg_ℤ edge) then int_div_euclid k (pos fine) -ℤ shift else (if int_lt edge k then int_div_euclid k (pos fine) +ℤ shift else k)

-- the end that a code stands for: none for the lowest code
abbrev pub end_of : ℤ → Option ℤ
end_of c = if int_eq c lowest then None else Some (units_of c)

-- the code of an end: that of its units, or the lowest code where there is no end
abbrev pub code_at : Option ℤ → ℤ
code_at None = lowest
code_at (Some k) = code_of k

-- at most 2 to the power of 96 on either side of 0, so that the sum of two has less than 128 binary digits
pub record IsShortEnd (k : ℤ) : Type 0 where
  pub low : neg_ℤ (pos (2 ^ 96)) ≤ℤ k
  pub high : k ≤ℤ pos (2 ^ 96)

-- the negative of an end
abbrev pub turned : Option ℤ → Option ℤ
turned None = None
turned (Some k) = Some (neg_ℤ k)

-- there is no end
abbrev pub is_none : Option ℤ → Bool
is_none None = true
is_none (Some k) = false

-- the first is lower, as low ends
abbrev pub is_lower : Option ℤ → Option ℤ → Bool
is_lower None None = false
is_lower None (Some b) = true
is_lower (Some a) None = false
is_lower (Some a) (Some b) = int_lt a b

-- the low end is at or below the high end, if there are both
abbrev pub is_up_to : Option ℤ → Option ℤ → Bool
is_up_to None h = true
is_up_to (Some l) None = true
is_up_to (Some l) (Some h) = int_le l h
