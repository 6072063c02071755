-- Names that are made of names: those of the closure and of the interior of a relation or view. No definition has one.
use Rattle.std.specs.Prelude.{ℕ, ◌==◌, Bool, true, false, Option, Some, None, option_map, List, [], ◌∷◌, ◌++◌, codes, if◌then◌else◌}

-- the name of the closure of the relation or view n: `closure(n)`
abbrev pub closure_name : List ℕ → List ℕ
closure_name n = codes "closure(" ++ (n ++ codes ")")

-- the name of the interior of the relation or view n: `interior(n)`
abbrev pub interior_name : List ℕ → List ℕ
interior_name n = codes "interior(" ++ (n ++ codes ")")

-- the bytes behind a front, where they begin with it
abbrev pub behind : List ℕ → List ℕ → Option (List ℕ)
behind [] n = Some n
behind (b ∷ bs) [] = None
behind (b ∷ bs) (c ∷ n) = if b == c then behind bs n else None

-- the bytes before a last `)`
abbrev pub before_last : List ℕ → Option (List ℕ)
before_last [] = None
before_last (b ∷ []) = if b == 41 then Some [] else None
before_last (b ∷ c ∷ n) = option_map (λ m. b ∷ m) (before_last (c ∷ n))

-- the bytes before a last `)` in the given bytes; None where none are given or they don't end with `)`
abbrev pub before_last_of : Option (List ℕ) → Option (List ℕ)
before_last_of None = None
before_last_of (Some n) = before_last n

-- the bytes between a front and a last `)`
abbrev pub between : List ℕ → List ℕ → Option (List ℕ)
between front n = before_last_of (behind front n)

-- what a name names: a relation or view itself, or the closure or the interior of one
pub data Reading : Type 0 where
  itself : Reading
  closure_of : List ℕ → Reading
  interior_of : List ℕ → Reading

-- what a name names, by what stands in it between `closure(` and `)`, and between `interior(` and `)`
abbrev pub reading_by : Option (List ℕ) → Option (List ℕ) → Reading
reading_by (Some m) i = closure_of m
reading_by None (Some m) = interior_of m
reading_by None None = itself

-- what a name names: `closure(n)` the closure of n, `interior(n)` the interior of n, and any other name itself
unfoldable pub reading : List ℕ → Reading
reading n = reading_by (between (codes "closure(") n) (between (codes "interior(") n)

-- the name that n, read so, is made of; n itself where it is not made
abbrev pub base_by : List ℕ → Reading → List ℕ
base_by n itself = n
base_by n (closure_of m) = m
base_by n (interior_of m) = m

-- the name that it is made of, and the name itself where it is not made
abbrev pub base : List ℕ → List ℕ
base n = base_by n (reading n)

-- whether a name that is read so is made
abbrev pub is_made_by : Reading → Bool
is_made_by itself = false
is_made_by (closure_of m) = true
is_made_by (interior_of m) = true

-- whether the name is that of a closure or of an interior
abbrev pub is_made : List ℕ → Bool
is_made n = is_made_by (reading n)
