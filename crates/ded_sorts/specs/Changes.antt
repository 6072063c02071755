-- What a command changes of the entries of a catalogue: c is the catalogue before, d the one after.
use Rattle.std.specs.Prelude.{◌≡◌, ◌+◌, ℕ, List, [], ◌∷◌, ◌++◌}
use Rattle.ded_model.specs.declared.name.Column.{Column}
use Rattle.ded_model.specs.Catalogue.{Entry, Catalogue, entry_name}
use Rattle.ded_model.specs.Catalogue as entry
use Rattle.ded_model.specs.Row.{Atom}

-- one entry more, at the end
abbrev pub AddsEntry : Catalogue → Catalogue → Entry → Type 0
AddsEntry c d e = d ≡ record c { entries = c.entries ++ e ∷ [] }

-- one entry in place of another of the name, the others in their order
pub record ChangesEntry (c d : Catalogue) (n : List ℕ) (old new : Entry) : Type 0 where
  pub before : List Entry
  pub after : List Entry
  pub was : c.entries ≡ before ++ old ∷ after
  pub is : d ≡ record c { entries = before ++ new ∷ after }
  pub named : entry_name old ≡ n

-- without the entry of the name, the others in their order
pub record DropsEntry (c d : Catalogue) (n : List ℕ) : Type 0 where
  pub before : List Entry
  pub old : Entry
  pub after : List Entry
  pub was : c.entries ≡ before ++ old ∷ after
  pub is : d ≡ record c { entries = before ++ after }
  pub named : entry_name old ≡ n

-- the relation has accepted one insert more, whose count is the tuple's number k, and the tuple stands at the end
pub record Inserts (c d : Catalogue) (n : List ℕ) (t : List Atom) (k : ℕ) : Type 0 where
  pub columns : List Column
  pub inserts : ℕ
  pub present : List (ℕ × List Atom)
  pub number : k ≡ inserts + 1
  pub changes : ChangesEntry c d n (entry.relation n columns inserts present) (entry.relation n columns k (present ++ (k, t) ∷ []))

-- the tuple of the number is gone
pub record Deletes (c d : Catalogue) (n : List ℕ) (k : ℕ) : Type 0 where
  pub columns : List Column
  pub inserts : ℕ
  pub before : List (ℕ × List Atom)
  pub tuple : List Atom
  pub after : List (ℕ × List Atom)
  pub changes : ChangesEntry c d n (entry.relation n columns inserts (before ++ (k, tuple) ∷ after)) (entry.relation n columns inserts (before ++ after))
