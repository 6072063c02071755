-- Texts between quotes.
use Rattle.std.specs.Prelude.{ℕ, ◌==◌, List, [], ◌∷◌, ◌++◌, if◌then◌else◌}

-- a quote (39) twice, each other byte once
abbrev pub doubled_byte : ℕ → List ℕ
doubled_byte b = if b == 39 then 39 ∷ 39 ∷ [] else b ∷ []

-- each quote twice
abbrev pub doubled : List ℕ → List ℕ
doubled [] = []
doubled (b ∷ bs) = doubled_byte b ++ doubled bs

-- the text between quotes, each quote in it twice
abbrev pub quoted : List ℕ → List ℕ
quoted t = 39 ∷ doubled t ++ 39 ∷ []
