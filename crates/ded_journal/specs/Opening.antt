-- What an open of files finds and leaves.
use Rattle.std.specs.Prelude.{◌≡◌, ◌⊎◌, IsTrue, []}
use Rattle.sqlite_disk.specs.Disk.{MoreFaults}
use Rattle.sqlite_disk.specs.declared.Disk.{Ghosts}
use Rattle.sqlite_disk.specs.declared.Files.{Files}
use Rattle.sqlite_wal.specs.Recovery.{Image}
use Rattle.sqlite_wal.specs.Reads.{AreClean}
use Rattle.sqlite_trees.specs.Tree.{Trees}
use Rattle.sqlite_trees.specs.View.{View}
use Rattle.sqlite_store.specs.declared.store.FileStore.{FileStore}
use Rattle.sqlite_store.specs.FileStore.{recovers}
use Rattle.sqlite.specs.declared.error.Error.{Error}
use Rattle.sqlite.specs.declared.file.Leftover.{Leftover}
use Rattle.sqlite.specs.declared.file.Leftover.TheVariants as left
use Rattle.sqlite.specs.Files.{image_of, faults_left, HoldsDatabase, AreFoundIn, FailsToOpenFiles, LeavesFiles}
use Rattle.ded_journal.specs.Statements.{HoldsStatements, IsUnwritten}
use Rattle.ded_journal.specs.Journals.{JournalState, RefusesFor, named_error}
use Rattle.ded_journal.specs.declared.refusal.NotOpened.{NotOpened}

-- a store with these trees is refused for its cause
abbrev pub IsRefused : Trees → Type 0 → NotOpened → Type 0
IsRefused db fault e = (v : View) × (v.trees ≡ db) × RefusesFor v fault e

-- The journal is open on what the files recover to: on its statements or, of files that hold nothing or a database with no object and no user version, on none.
pub record FindsJournalIn {S : Type 0} (image : Image) (state : JournalState S) : Type 0 where
  pub is_open : IsTrue state.is_open
  pub settled : state.now ≡ state.committed
  pub db : Trees
  pub found : AreFoundIn image db
  pub holds : (held : Trees) → HoldsDatabase image held → db ≡ held
  pub statements : HoldsStatements db state.now ⊎ (IsUnwritten db × (state.now ≡ []))

module _ {D : Type 0} {g : Ghosts D} where
  -- the same of two files, where no wrong answer of theirs has been taken as true
  pub record FindsJournal (files : Files D) (state : JournalState (FileStore D g)) : Type 0 where
    pub honest : AreClean g files.log files.db
    pub finds : FindsJournalIn (image_of g files) state

  -- the open of the database has failed, or what it found is refused, where a fault is one of the disk at any time
  abbrev pub FailsToOpen : Files D → Leftover D g → NotOpened → Type 0
  FailsToOpen files rest e =
      ((error : Error) × (e ≡ named_error error) × FailsToOpenFiles files rest error)
      ⊎ ((db : Trees) × AreFoundIn (image_of g files) db × ((held : Trees) → HoldsDatabase (image_of g files) held → db ≡ held)
      × IsRefused db (MoreFaults 0 (faults_left rest)) e)

  -- The files are as an open of the database leaves them. Only files that hold nothing may now hold a journal with no statement.
  abbrev pub LeavesJournal : Files D → Leftover D g → Type 0
  LeavesJournal files (left.Files now) = LeavesFiles {g = g} files (left.Files now)
  LeavesJournal files (left.Unopened now) = LeavesFiles {g = g} files (left.Unopened now)
  LeavesJournal files (left.Store now) =
      (db : Trees) → recovers now db
      → (AreFoundIn (image_of g files) db × ((held : Trees) → HoldsDatabase (image_of g files) held → db ≡ held))
      ⊎ (HoldsStatements db [] × ((held : Trees) → HoldsDatabase (image_of g files) held → IsUnwritten held))
