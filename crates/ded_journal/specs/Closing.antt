-- What a close leaves of the two files, or of the store where it fails.
use Rattle.std.specs.Prelude.{◌≡◌, ◌⊎◌, ℕ, List, [], false, IsTrue, ⊤}
use Rattle.sqlite_disk.specs.Disk.{MoreFaults}
use Rattle.sqlite_disk.specs.declared.Disk.{Ghosts}
use Rattle.sqlite_disk.specs.declared.Files.{Files}
use Rattle.sqlite_wal.specs.Recovery.{Image}
use Rattle.sqlite_wal.specs.Files.{outcomes}
use Rattle.sqlite_wal.specs.Reads.{AreClean}
use Rattle.sqlite_trees.specs.declared.error.StoreError.{StoreError}
use Rattle.sqlite_trees.specs.declared.error.StoreError.TheVariants.{OutOfMemory, Io, Corrupt, Full, Broken, Unstorable}
use Rattle.sqlite_trees.specs.Tree.{Trees}
use Rattle.sqlite_trees.specs.View.{Tells}
use Rattle.sqlite_store.specs.declared.store.FileStore.{FileStore}
use Rattle.sqlite_store.specs.FileStore.{view, faults, blamed}
use Rattle.sqlite.specs.Files.{image_of, HoldsDatabase}
use Rattle.ded_journal.specs.Statements.{HoldsStatements}
use Rattle.ded_journal.specs.Journals.{JournalState, journal_of, IsHonest, IsUndoneTo}

-- the two files hold a database, which an open takes, and it has these statements
pub record HoldsList (image : Image) (list : List (List ℕ)) : Type 0 where
  pub db : Trees
  pub statements : HoldsStatements db list
  pub database : ∥ HoldsDatabase image db ∥₁

-- the same, and so does the database file with no log
pub record HoldsListAlone (image : Image) (list : List (List ℕ)) : Type 0 where
  pub both : HoldsList image list
  pub alone : HoldsList (record image { log = [] }) list

-- The journal was open, and its last commit is in the database file, as it reads now and after a crash.
pub record IsMoved {D S : Type 0} (g : Ghosts D) (state : JournalState S) (files : Files D) : Type 0 where
  pub was_honest : IsHonest state
  pub was_open : IsTrue state.is_open
  pub seen : HoldsListAlone (image_of g files) state.committed
  pub left : (image : Image) → outcomes g files.log files.db image → HoldsListAlone image state.committed

-- the journal is open on each list that the files hold, if no wrong answer of theirs has been taken as true
pub record FindsList {D S : Type 0} (g : Ghosts D) (files : Files D) (state : JournalState S) : Type 0 where
  pub honest : AreClean g files.log files.db
  pub is_open : IsTrue state.is_open
  pub finds : (list : List (List ℕ)) → HoldsList (image_of g files) list → (state.now ≡ list) × (state.committed ≡ list)

-- what a store over files shows as a journal
abbrev pub shown_by : {D : Type 0} {g : Ghosts D} → FileStore D g → JournalState (FileStore D g)
shown_by store = journal_of (view store) (faults store) (blamed store) store

module _ {S : Type 0} (old new : JournalState S) where
  -- why a close may fail
  abbrev pub ExcusesClose : StoreError → Type 0
  ExcusesClose OutOfMemory = ⊤
  ExcusesClose Io = IsHonest new → MoreFaults old.faults new.faults
  ExcusesClose Corrupt = IsHonest new → MoreFaults old.faults new.faults
  ExcusesClose Full = IsHonest new → MoreFaults old.faults new.faults
  ExcusesClose Broken = IsHonest new → (old.is_open ≡ false) ⊎ MoreFaults old.faults new.faults
  ExcusesClose Unstorable = IsHonest new → ⊥

  -- the close has failed for a cause, and what was not committed is gone
  pub record FailsToClose (e : StoreError) : Type 0 where
    pub undone : IsUndoneTo old new
    pub told : Tells new.blamed e
    pub cause : ExcusesClose e

-- what a crash may leave of such a store is the last commit of the journal, if that was open, whole
abbrev pub KeepsCommit : {S : Type 0} → (S → Trees → Type 0) → JournalState S → S → Type 0
KeepsCommit recovers old new = IsTrue old.is_open → (db : Trees) → recovers new db → HoldsStatements db old.committed
