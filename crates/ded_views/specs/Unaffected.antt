-- Names that a change of a catalogue doesn't touch.
use Rattle.std.specs.Prelude.{◌≡◌, ℕ, Bool, true, Some, List}
use Rattle.ded_model.specs.declared.name.Column.{Column}
use Rattle.ded_model.specs.Form.{Form, speaks_of}
use Rattle.ded_model.specs.Catalogue.{Catalogue, view}
use Rattle.ded_model.specs.Entries.{entry_of}

-- names with the same entry over both catalogues, among which the names are that such a view speaks of
pub record AreUnaffected (c d : Catalogue) (among : List ℕ → Bool) : Type 0 where
  pub same : (n : List ℕ) → among n ≡ true → entry_of d.entries n ≡ entry_of c.entries n
  pub closed : (n m k : List ℕ) (h : List Column) (f : Form) → among n ≡ true → entry_of c.entries n ≡ Some (view m h f) → speaks_of k f ≡ true → among k ≡ true
