-- What a snapshot stands for.
use Rattle.std.specs.Prelude.{◌≡◌, ◌+◌, ◌≤◌, ℕ, List, Some}
use Rattle.std.specs.Map.{lookup}
use Rattle.std.specs.Str.{bytes_eq}
use Rattle.ded_model.specs.Catalogue.{Catalogue}
use Rattle.ded_ranges.specs.declared.window.Window.{Window}
use Rattle.ded_relation.specs.Lookups.{IsLookup, most_reads}
use Rattle.ded_relation.specs.Relations.{Relation}
use Rattle.ded_catalog.specs.State.{Table, catalogue_of, relation_at}
use Rattle.ded_catalog.specs.Changing.{PendingChange, changed}

-- a catalogue of the program, and what is changed of it
pub record Snapshot : Type 0 where
  pub table : Table
  pub change : PendingChange

-- the catalogue
unfoldable pub snapshot_of : Snapshot → Catalogue
snapshot_of s = changed (catalogue_of s.table) s.change

-- the steps of looking a name up: in one column of a relation at most those of a look-up there, and one more for the tuple that is brought
abbrev pub AreSnapshotSteps : Snapshot → List ℕ → Window → ℕ → ℕ → Type 0
AreSnapshotSteps s n w before after = (r : Relation) → relation_at (lookup (bytes_eq n) s.table.names) ≡ Some r → IsLookup w r → after ≤ before + 1 + most_reads w r
