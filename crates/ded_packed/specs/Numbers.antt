-- What is read from a stack of bytes, the first one on top: numbers and texts. The bytes that are missing count as 0.
use Rattle.std.specs.Prelude.{ℕ, ◌+◌, ◌-◌, ◌*◌, ◌/◌, ◌%◌, ◌^◌, ◌<◌, ◌≤◌, ◌==◌, nat_lt, ℤ, pos, negsuc, List, [], ◌∷◌, length, take, drop, reverse, if◌then◌else◌}

-- the byte on top
abbrev pub byte_in : List ℕ → ℕ
byte_in [] = 0
byte_in (b ∷ bytes) = b

-- groups of 7 binary digits, the lowest on top; all but the last have 128 more
abbrev pub natural_in : List ℕ → ℕ
natural_in [] = 0
natural_in (b ∷ bytes) = if nat_lt b 128 then b else 128 * natural_in bytes + (b - 128)

-- what is under a number
abbrev pub after_natural : List ℕ → List ℕ
after_natural [] = []
after_natural (b ∷ bytes) = if nat_lt b 128 then bytes else after_natural bytes

-- the whole numbers in the order 0, -1, 1, -2, 2 ..
unfoldable pub whole_of : ℕ → ℤ
whole_of n = if n % 2 == 0 then pos (n / 2) else negsuc (n / 2)

-- a whole number, as its place in that order
abbrev pub whole_in : List ℕ → ℤ
whole_in bytes = whole_of (natural_in bytes)

-- a text: how many bytes it has, and these, the last on top
abbrev pub text_in : List ℕ → List ℕ
text_in bytes = reverse (take (natural_in bytes) (after_natural bytes))

-- what is under a text
abbrev pub after_text : List ℕ → List ℕ
after_text bytes = drop (natural_in bytes) (after_natural bytes)

-- the text is whole
pub record TextFits (bytes : List ℕ) : Type 0 where
  pub count : natural_in bytes < 2 ^ 64
  pub whole : natural_in bytes ≤ length (after_natural bytes)
