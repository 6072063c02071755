-- The names of the atoms of a formula, gathered one atom after another.
use Rattle.std.specs.Prelude.{◌≡◌, ℕ, false, Option, Some, None, List, [], ◌∷◌, ◌++◌, if◌then◌else◌}
use Rattle.std.specs.Str.{bytes_eq}
use Rattle.std.specs.List.{list_any}
use Rattle.ded_model.specs.Logic.{Logic, atom, always, never, negation, every_of, some_of, implies, minus, exists, forall, Logics, none, also}
use Rattle.ded_model.specs.Goal.{GoalAtom, linear, theme, member}
use Rattle.ded_model.specs.PlanForm.{PlanAtom, scan, rows}

-- the name after the others, unless it is one of them
abbrev pub with_name : List (List ℕ) → List ℕ → List (List ℕ)
with_name ns n = if list_any (bytes_eq n) ns then ns else ns ++ n ∷ []

-- the name, if there is one
abbrev pub with_some_name : List (List ℕ) → Option (List ℕ) → List (List ℕ)
with_some_name ns None = ns
with_some_name ns (Some n) = with_name ns n

abbrev mutual
  -- the names of a formula's atoms after the others, where `name_of` gives the name of an atom that has one
  pub with_names : {L : Type 0} → (L → Option (List ℕ)) → List (List ℕ) → Logic L → List (List ℕ)
  with_names name_of ns (atom a) = with_some_name ns (name_of a)
  with_names name_of ns always = ns
  with_names name_of ns never = ns
  with_names name_of ns (negation f) = with_names name_of ns f
  with_names name_of ns (every_of fs) = with_all_names name_of ns fs
  with_names name_of ns (some_of fs) = with_all_names name_of ns fs
  with_names name_of ns (implies f g) = with_names name_of (with_names name_of ns f) g
  with_names name_of ns (minus f g) = with_names name_of (with_names name_of ns f) g
  with_names name_of ns (exists s k f) = with_names name_of ns f
  with_names name_of ns (forall s k f) = with_names name_of ns f

  -- those of a list of formulas
  pub with_all_names : {L : Type 0} → (L → Option (List ℕ)) → List (List ℕ) → Logics L → List (List ℕ)
  with_all_names name_of ns none = ns
  with_all_names name_of ns (also f fs) = with_all_names name_of (with_names name_of ns f) fs

-- the name that an atom of a plan scans
abbrev pub scanned_name : PlanAtom → Option (List ℕ)
scanned_name (scan n ss) = Some n
scanned_name (rows t) = None

-- the name that an atom of a goal uses
abbrev pub used_name : GoalAtom → Option (List ℕ)
used_name (linear r) = None
used_name (theme a) = None
used_name (member n ts) = Some n

-- no two of the names are the same
abbrev pub AreDistinctNames : List (List ℕ) → Type 0
AreDistinctNames [] = Unit {0}
AreDistinctNames (n ∷ ns) = (list_any (bytes_eq n) ns ≡ false) × AreDistinctNames ns
