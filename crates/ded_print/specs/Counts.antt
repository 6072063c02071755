-- Counts in decimal, digit by digit, the ones first.
use Rattle.std.specs.Prelude.{ℕ, zero, suc, ◌+◌, nat_lt, Bool, true, false, List, [], ◌∷◌, ◌++◌, length, if◌then◌else◌}

-- one more, as far as there are digits
abbrev pub added : List ℕ → List ℕ
added [] = []
added (b ∷ bs) = if nat_lt b 57 then (b + 1) ∷ bs else 48 ∷ added bs

-- whether all digits are 9
abbrev pub carries : List ℕ → Bool
carries [] = true
carries (b ∷ bs) = if nat_lt b 57 then false else carries bs

-- one more, where there is room for this many digits
abbrev pub raised : ℕ → List ℕ → List ℕ
raised room bs = if carries bs then (if nat_lt (length bs) room then added bs ++ 49 ∷ [] else added bs) else added bs

-- this many more
abbrev pub raised_by : ℕ → List ℕ → List ℕ
raised_by zero bs = bs
raised_by (suc n) bs = raised_by n (raised 64 bs)
