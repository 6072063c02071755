-- Lists of the names that a command touches and changes.
use Rattle.std.specs.Prelude.{◌≡◌, ◌<◌, ℕ, Bool, true, false, ◌||◌, List}
use Rattle.std.specs.Str.{bytes_eq}
use Rattle.std.specs.List.{list_any}
use Rattle.ded_model.specs.Catalogue.{Catalogue}
use Rattle.ded_model.specs.Command.{CommandForm, relation, insert, delete, drop, view}
use Rattle.ded_model.specs.Entries.{entry_of, known}
use Rattle.ded_model.specs.Form.{speaks_of}
use Rattle.ded_model.specs.Known.{level_with}
use Rattle.ded_sorts.specs.Causes.{formula_in, passes_with}
use Rattle.ded_shared.specs.Touching.{names_beside, name_touches, uses_name}
use Rattle.ded_shared.specs.State.{is_among}

-- the names that a command has, in its formula and beside it
pub record AreNamed (x : CommandForm) (ns : List (List ℕ)) : Type 0 where
  pub all : (n : List ℕ) → is_among ns n ≡ (is_among (names_beside x) n || passes_with (formula_in x) (speaks_of n))

-- what a name of the list touches stands there too
abbrev pub IsClosed : Catalogue → List (List ℕ) → Type 0
IsClosed c ns = (n m : List ℕ) → is_among ns n ≡ true → name_touches c n m ≡ true → is_among ns m ≡ true

-- closed, with what the name touches besides
pub record Touches (c : Catalogue) (n : List ℕ) (old new : List (List ℕ)) : Type 0 where
  pub closed : IsClosed c new
  pub all : (m : List ℕ) → is_among new m ≡ (is_among old m || name_touches c n m)

-- closed, with what these names touch besides
pub record TouchesAll (c : Catalogue) (ns old new : List (List ℕ)) : Type 0 where
  pub closed : IsClosed c new
  pub all : (m : List ℕ) → is_among new m ≡ (is_among old m || list_any (λ n. name_touches c n m) ns)

-- the level of each is below this one
abbrev pub AreBelow : Catalogue → List (List ℕ) → ℕ → Type 0
AreBelow c ns level = (n : List ℕ) → is_among ns n ≡ true → level_with (known c n) < level

-- what a command changes where it is accepted
abbrev pub changed_by : Catalogue → CommandForm → List ℕ → Bool
changed_by c (relation m h) n = bytes_eq m n
changed_by c (insert m fs) n = bytes_eq m n
changed_by c (delete m k) n = bytes_eq m n
changed_by c (view m h f) n = bytes_eq m n || speaks_of n f
changed_by c (drop m) n = bytes_eq m n || uses_name (entry_of c.entries m) n
changed_by c _ n = false
