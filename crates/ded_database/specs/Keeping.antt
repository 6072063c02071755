-- Marks and lists, made and dropped.
use Rattle.std.specs.Prelude.{◌≡◌, ℕ, true, false, not, ◌||◌, is_some, List}
use Rattle.std.specs.List.{filter}
use Rattle.std.specs.Str.{bytes_eq}
use Rattle.ded_model.specs.Catalogue.{Catalogue}
use Rattle.ded_algebra.specs.declared.given.GivenRelation.{GivenRelation}
use Rattle.ded_database.specs.declared.mark.Mark.{Mark}
use Rattle.ded_database.specs.Held.{held_under, is_marked}
use Rattle.ded_database.specs.Upkeep.{IsTightView}

-- the view is marked, and the others are as they were
abbrev pub IsMarkedWith : List ℕ → List Mark → List Mark → Type 0
IsMarkedWith n old new = (m : List ℕ) → is_marked new m ≡ (bytes_eq m n || is_marked old m)

-- the list of the view is held where its formula is tight; one that was held is held still, and so are the others
pub record IsListedWith (c : Catalogue) (n : List ℕ) (old new : List GivenRelation) : Type 0 where
  pub tight : IsTightView c n → is_some (held_under new n) ≡ true
  pub present : is_some (held_under old n) ≡ true → new ≡ old
  pub others : (m : List ℕ) → bytes_eq m n ≡ false → held_under new m ≡ held_under old m

-- the marks of other names, in order
abbrev pub without_mark : List ℕ → List Mark → List Mark
without_mark n ms = filter (λ (m : Mark). not (bytes_eq m.name n)) ms
