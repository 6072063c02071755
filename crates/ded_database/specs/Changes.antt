-- A change of what a relation holds.
use Rattle.std.specs.Prelude.{◌≡◌, ℕ, Option, Some, None, List}
use Rattle.std.specs.Option.{option_map}
use Rattle.ded_model.specs.Catalogue.{Catalogue}
use Rattle.ded_model.specs.Known.{IsWellFormed}
use Rattle.ded_model.specs.Row.{Atom}
use Rattle.ded_sorts.specs.Changes.{Inserts, Deletes}
use Rattle.ded_catalog.specs.State.{catalogue_of}
use Rattle.ded_catalog.specs.Snapshots.{snapshot_of}
use Rattle.ded_database.specs.declared.change.Change.{Change}
use Rattle.ded_database.specs.declared.change.TupleStep.{TupleStep}
use Rattle.ded_database.specs.declared.change.TupleStep.TheVariants.{Inserted, Deleted}

-- the catalogue before the change
abbrev pub before : Change → Catalogue
before x = catalogue_of x.catalogue.now

-- the catalogue after the change
abbrev pub after : Change → Catalogue
after x = snapshot_of x.snapshot.now

-- the tuple that is inserted
abbrev pub inserted_in : TupleStep → Option (List Atom)
inserted_in (Inserted t) = Some t.now
inserted_in (Deleted o) = None

-- the tuple that is deleted, where it is told
abbrev pub deleted_in : TupleStep → Option (List Atom)
deleted_in (Inserted t) = None
deleted_in (Deleted o) = option_map (λ t. t.now) o

-- the tuple that a change inserts, none where it deletes one
abbrev pub inserted_tuple : Change → Option (List Atom)
inserted_tuple x = inserted_in x.step

-- the tuple that a change deletes, where it is told; none where it inserts one
abbrev pub deleted_tuple : Change → Option (List Atom)
deleted_tuple x = deleted_in x.step

-- one tuple is inserted, or one is deleted
abbrev pub ChangesTuple : Catalogue → Catalogue → List ℕ → Option (List Atom) → Type 0
ChangesTuple c d n (Some t) = (k : ℕ) × Inserts c d n t k
ChangesTuple c d n None = (k : ℕ) × Deletes c d n k

-- both catalogues are well formed, and the second is the first with the tuple inserted
pub record IsInsert (c d : Catalogue) (n : List ℕ) (t : List Atom) : Type 0 where
  pub formed_before : IsWellFormed c
  pub formed_after : IsWellFormed d
  pub number : ℕ
  pub inserts : Inserts c d n t number

-- both are well formed, and one tuple is inserted or deleted
pub record IsChange (c d : Catalogue) (n : List ℕ) (t : Option (List Atom)) : Type 0 where
  pub formed_before : IsWellFormed c
  pub formed_after : IsWellFormed d
  pub changes : ChangesTuple c d n t

-- both are well formed, and the second is the first without the tuple
pub record IsDelete (c d : Catalogue) (n : List ℕ) (t : List Atom) : Type 0 where
  pub formed_before : IsWellFormed c
  pub formed_after : IsWellFormed d
  pub number : ℕ
  pub deletes : Deletes c d n number
  pub tuple : deletes.tuple ≡ t

-- where the tuple is told
abbrev pub IsToldDelete : Catalogue → Catalogue → List ℕ → Option (List Atom) → Type 0
IsToldDelete c d n None = Unit {0}
IsToldDelete c d n (Some t) = IsDelete c d n t

-- a delete of the number takes the tuple
abbrev pub DeletesTuple : Catalogue → List ℕ → ℕ → List Atom → Type 0
DeletesTuple c n k t = (d : Catalogue) → IsWellFormed d → Deletes c d n k → IsDelete c d n t
