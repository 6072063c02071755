-- The relations of a catalogue, and what is given under other names.
use Rattle.std.specs.Prelude.{◌≡◌, ◌≤◌, ◌+◌, Bool, true, false, ◌||◌, ℕ, Option, Some, None, List, [], ◌∷◌, ◌++◌, if◌then◌else◌}
use Rattle.std.specs.Str.{bytes_eq}
use Rattle.ded_model.specs.Catalogue.{Entry, relation, view, Catalogue, tuples_of}
use Rattle.ded_algebra.specs.declared.given.GivenRelation.{GivenRelation}
use Rattle.ded_algebra.specs.Evaluation.{given_tuples, count_of}
use Rattle.ded_algebra.specs.Given.{given_catalogue, has_name}
use Rattle.ded_catalog.specs.Snapshots.{Snapshot, AreSnapshotSteps}
use Rattle.ded_ranges.specs.declared.window.Window.{Window}

-- the relations among the entries, in order
abbrev pub relations_among : List Entry → List GivenRelation
relations_among [] = []
relations_among (relation n h m ts ∷ es) = record { name = n; heading = h; tuples = tuples_of ts } ∷ relations_among es
relations_among (view n h f ∷ es) = relations_among es

-- those whose names don't pass the test
abbrev pub not_named : (List ℕ → Bool) → List GivenRelation → List GivenRelation
not_named test [] = []
not_named test (r ∷ rs) = if test r.name then not_named test rs else r ∷ not_named test rs

-- the name is the hidden one
abbrev pub is_hidden : Option (List ℕ) → List ℕ → Bool
is_hidden None n = false
is_hidden (Some m) n = bytes_eq n m

-- what is given, and behind it the relations of the catalogue whose names are neither given nor hidden
unfoldable pub over_relations : Catalogue → Option (List ℕ) → List GivenRelation → List GivenRelation
over_relations c hidden gs = gs ++ not_named (λ n. has_name n gs || is_hidden hidden n) (relations_among c.entries)

-- the steps of looking a name up: where it is given, one for each tuple at most, and else those of the snapshot
pub record AreStepsOver (s : Snapshot) (gs : List GivenRelation) (n : List ℕ) (w : Window) (before after : ℕ) : Type 0 where
  pub given : has_name n gs ≡ true → after ≤ before + count_of (given_tuples (given_catalogue gs) n)
  pub stored : has_name n gs ≡ false → AreSnapshotSteps s n w before after
