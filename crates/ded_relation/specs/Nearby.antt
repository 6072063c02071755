-- The stored tuples that may hold in a window.
use Rattle.std.specs.Prelude.{◌≡◌, ℕ, Option, Some, None, List, [], ◌∷◌, ◌++◌, map}
use Rattle.std.specs.BTreeMap.{is_at}
use Rattle.std.specs.Borrow.{Bor}
use Rattle.std.specs.Map.{lookup}
use Rattle.std.specs.Ordering.{nat_cmp}
use Rattle.ded_model.specs.Row.{Atom}
use Rattle.ded_model.specs.Sublists.{IsSublistWithout}
use Rattle.ded_ranges.specs.declared.window.Window.{Window}
use Rattle.ded_ranges.specs.Windows.{IsMissed}

-- the tuples behind references, with their numbers
abbrev pub numbered : List (ℕ × Bor (List Atom)) → List (ℕ × List Atom)
numbered ts = map (λ t. (t.0, t.1.now)) ts

-- the first list is the second one without tuples that hold nowhere in the window
abbrev pub AreNear : Window → List (ℕ × List Atom) → List (ℕ × List Atom) → Type 0
AreNear w found ts = IsSublistWithout (λ t. IsMissed w t.1) found ts

-- the same, where there may be no lists
abbrev pub AreFound : Window → Option (List (ℕ × List Atom)) → Option (List (ℕ × List Atom)) → Type 0
AreFound w None None = Unit {0}
AreFound w None (Some ts) = ⊥
AreFound w (Some us) None = ⊥
AreFound w (Some us) (Some ts) = AreNear w us ts

-- what is near of further tuples stands at the end
pub record AddsNear (w : Window) (ts old new : List (ℕ × List Atom)) : Type 0 where
  pub more : List (ℕ × List Atom)
  pub near : AreNear w more ts
  pub list : new ≡ old ++ more

-- the tuple under the number, if there is one
abbrev pub with_number : ℕ → Option (List Atom) → List (ℕ × List Atom)
with_number i None = []
with_number i (Some t) = (i, t) ∷ []

-- the tuples of the numbers, in the order of these
abbrev pub picked : List ℕ → List (ℕ × List Atom) → List (ℕ × List Atom)
picked [] ts = []
picked (i ∷ is) ts = with_number i (lookup (is_at (nat_cmp i)) ts) ++ picked is ts
