-- The names that a formula speaks of, as a list.
use Rattle.std.specs.Prelude.{◌≡◌, ℕ, Bool, false, ◌||◌, List, [], ◌∷◌}
use Rattle.std.specs.List.{list_any}
use Rattle.std.specs.Str.{bytes_eq}
use Rattle.ded_model.specs.Form.{Form, speaks_of}

-- no name stands twice
abbrev pub AreOnce : List (List ℕ) → Type 0
AreOnce [] = Unit {0}
AreOnce (n ∷ ns) = (list_any (bytes_eq n) ns ≡ false) × AreOnce ns

-- the names are those that the formula speaks of, each once
pub record AreMentions (ns : List (List ℕ)) (f : Form) : Type 0 where
  pub all : (n : List ℕ) → list_any (bytes_eq n) ns ≡ speaks_of n f
  pub once : AreOnce ns

-- the names of the first list, and those that pass the test, stand in the second one, each once where that was so
pub record Gathers (test : List ℕ → Bool) (old new : List (List ℕ)) : Type 0 where
  pub all : (n : List ℕ) → list_any (bytes_eq n) new ≡ (list_any (bytes_eq n) old || test n)
  pub once : AreOnce old → AreOnce new
