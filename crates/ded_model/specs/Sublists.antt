-- Parts of a list in the same order.
use Rattle.std.specs.Prelude.{◌≡◌, ◌⊎◌, List, [], ◌∷◌}

-- the first list is the second one without elements of which it is so
abbrev pub IsSublistWithout : {A : Type 0} → (A → Type 0) → List A → List A → Type 0
IsSublistWithout Left xs [] = xs ≡ []
IsSublistWithout Left xs (y ∷ ys) = (Left y × IsSublistWithout Left xs ys) ⊎ ((zs : List _) × (xs ≡ y ∷ zs) × IsSublistWithout Left zs ys)

-- the first list is the second one without some of its elements
abbrev pub IsSublist : {A : Type 0} → List A → List A → Type 0
IsSublist xs ys = IsSublistWithout (λ x. Unit {0}) xs ys
