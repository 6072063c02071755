-- Catalogues that have the same of some names.
use Rattle.std.specs.Prelude.{◌≡◌, ℕ, Bool, true, List}
use Rattle.ded_model.specs.Catalogue.{Catalogue}
use Rattle.ded_model.specs.Entries.{entry_of}
use Rattle.ded_shared.specs.Touching.{uses_name}

-- Both have the same limit; and of each name among these, the same entry, and the same views that use it.
pub record Agree (c d : Catalogue) (among : List ℕ → Bool) : Type 0 where
  pub limit : d.limit ≡ c.limit
  pub same : (n : List ℕ) → among n ≡ true → entry_of d.entries n ≡ entry_of c.entries n
  pub users : (n m : List ℕ) → among n ≡ true → uses_name (entry_of d.entries m) n ≡ uses_name (entry_of c.entries m) n
