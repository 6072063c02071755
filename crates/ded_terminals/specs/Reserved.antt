-- Words that a glance tells to be names.
use Rattle.std.specs.Prelude.{ℕ, nat_lt, Bool, false, not, ◌&&◌, List, [], ◌∷◌, length}

-- the word has 2 to 8 bytes and begins with a small letter from a to v, as each reserved word does
abbrev pub may_be_reserved : List ℕ → Bool
may_be_reserved [] = false
may_be_reserved (b ∷ bs) = not (nat_lt b 97) && (not (nat_lt 118 b) && (not (nat_lt (length (b ∷ bs)) 2) && not (nat_lt 8 (length (b ∷ bs)))))
