-- Eight colours that the colour-blind tell apart (Okabe and Ito), each with a light tint and a hatch. Colours with numbers that are 8
-- apart are the same, and their hatches differ up to number 63.
use Rattle.std.specs.Prelude.{ℕ, ◌+◌, ◌/◌, ◌%◌, ◌==◌, List, ◌++◌, codes, if◌then◌else◌}
use Rattle.ded_print.specs.Numbers.{number_text}

-- lines
abbrev pub ink_of : ℕ → List ℕ
ink_of n =
    if n == 0 then codes "#E69F00"
    else (if n == 1 then codes "#56B4E9"
    else (if n == 2 then codes "#009E73"
    else (if n == 3 then codes "#F0E442"
    else (if n == 4 then codes "#0072B2"
    else (if n == 5 then codes "#D55E00"
    else (if n == 6 then codes "#CC79A7"
    else codes "#000000"))))))

-- the ground of areas
abbrev pub tint_of : ℕ → List ℕ
tint_of n =
    if n == 0 then codes "#F5D999"
    else (if n == 1 then codes "#BBE1F6"
    else (if n == 2 then codes "#99D8C7"
    else (if n == 3 then codes "#F9F4B3"
    else (if n == 4 then codes "#99C7E0"
    else (if n == 5 then codes "#EEBF99"
    else (if n == 6 then codes "#EBC9DC"
    else codes "#BBBBBB"))))))

-- the hatch of areas, in a square of 8 units
abbrev pub hatch_of : ℕ → List ℕ
hatch_of n =
    if n == 0 then codes "M0,0"
    else (if n == 1 then codes "M0,8L8,0M-2,2L2,-2M6,10L10,6"
    else (if n == 2 then codes "M0,0L8,8M6,-2L10,2M-2,6L2,10"
    else (if n == 3 then codes "M0,4H8"
    else (if n == 4 then codes "M4,0V8"
    else (if n == 5 then codes "M0,4H8M4,0V8"
    else (if n == 6 then codes "M0,0L8,8M0,8L8,0"
    else codes "M1,2H4M5,6H8"))))))

-- ---- of the colour of this number

-- what lines in the colour of this number are drawn with
unfoldable pub ink : ℕ → List ℕ
ink colour = ink_of (colour % 8)

-- the ground of areas in the colour of this number
unfoldable pub tint : ℕ → List ℕ
tint colour = tint_of (colour % 8)

-- the hatch of areas in the colour of this number
unfoldable pub hatch : ℕ → List ℕ
hatch colour = hatch_of ((colour % 8 + colour / 8) % 8)

-- the name of the pattern of areas in the colour of this number
abbrev pub pattern_name : ℕ → List ℕ
pattern_name colour = codes "p" ++ number_text colour

-- how shapes refer to that pattern
abbrev pub pattern_reference : ℕ → List ℕ
pattern_reference colour = codes "url(#p" ++ (number_text colour ++ codes ")")
