-- Lists of names that have with a name what it reaches.
use Rattle.std.specs.Prelude.{◌≡◌, ◌⊎◌, ℕ, ◌<◌, Bool, true, ◌||◌, is_some, List}
use Rattle.std.specs.Str.{bytes_eq}
use Rattle.std.specs.List.{list_any}
use Rattle.ded_model.specs.Catalogue.{Catalogue}
use Rattle.ded_model.specs.Entries.{known}
use Rattle.ded_model.specs.Goal.{GoalForm}
use Rattle.ded_model.specs.Known.{level_with}
use Rattle.ded_model.specs.Made.{base}
use Rattle.ded_model.specs.Uses.{goal_uses}
use Rattle.ded_views.specs.Reaching.{reaches}

-- the name stands in the list
abbrev pub has : List (List ℕ) → List ℕ → Bool
has ns n = list_any (bytes_eq n) ns

-- what a name of the list reaches stands there too
abbrev pub IsClosed : Catalogue → List (List ℕ) → Type 0
IsClosed c ns = (n m : List ℕ) → has ns n ≡ true → reaches c n m ≡ true → has ns m ≡ true

-- closed, with what the name reaches besides
pub record IsReachedAfter (c : Catalogue) (n : List ℕ) (old new : List (List ℕ)) : Type 0 where
  pub closed : IsClosed c new
  pub all : (m : List ℕ) → has new m ≡ (has old m || reaches c n m)

-- some name in the goal is made of one that reaches the name
pub record ReachesFrom (c : Catalogue) (g : GoalForm) (m : List ℕ) : Type 0 where
  pub name : List ℕ
  pub used : goal_uses name g ≡ true
  pub reaches : reaches c (base name) m ≡ true

-- closed, with what the names in the goal reach besides
pub record AreReachedAfter (c : Catalogue) (g : GoalForm) (old new : List (List ℕ)) : Type 0 where
  pub closed : IsClosed c new
  pub kept : (m : List ℕ) → has old m ≡ true → has new m ≡ true
  pub more : (m : List ℕ) → ReachesFrom c g m → has new m ≡ true
  pub only : (m : List ℕ) → has new m ≡ true → (has old m ≡ true) ⊎ ReachesFrom c g m

-- each name in the goal is made of a defined one, which has a level below this one
abbrev pub AreUsedBelow : Catalogue → GoalForm → ℕ → Type 0
AreUsedBelow c g level = (n : List ℕ) → goal_uses n g ≡ true → (is_some (known c (base n)) ≡ true) × (level_with (known c (base n)) < level)
