-- Texts that are added to a journal and committed together.
use Rattle.std.specs.Prelude.{◌≡◌, ◌⊎◌, ◌≤◌, ℕ, List, ◌++◌, take, slice_get, Some, IsTrue, ⊤}
use Rattle.sqlite_disk.specs.Disk.{MoreFaults}
use Rattle.sqlite_trees.specs.declared.error.StoreError.{StoreError}
use Rattle.sqlite_trees.specs.declared.error.StoreError.TheVariants.{OutOfMemory, Io, Corrupt, Full, Broken, Unstorable}
use Rattle.sqlite_trees.specs.Tree.{Trees}
use Rattle.ded_journal.specs.Journals.{JournalState, IsHonest, IsUnfit, IsDurable, AddsNoOutcome}
use Rattle.ded_journal.specs.Statements.{HoldsStatements}

-- one of the texts can't be stored behind those before it
pub record HasUnfit (list texts : List (List ℕ)) : Type 0 where
  pub place : ℕ
  pub text : List ℕ
  pub is : slice_get texts place ≡ Some text
  pub unfit : IsUnfit (list ++ take place texts) text

-- why texts may stay unsaved: want of memory, a fault of the disk, or a text that can't be stored
abbrev pub MayStayUnsaved : Type 0 → Type 0 → StoreError → Type 0
MayStayUnsaved fault unfit OutOfMemory = ⊤
MayStayUnsaved fault unfit Io = fault
MayStayUnsaved fault unfit Corrupt = fault
MayStayUnsaved fault unfit Full = fault
MayStayUnsaved fault unfit Broken = ⊥
MayStayUnsaved fault unfit Unstorable = unfit

-- the journal is open, these are its statements, and all of them are committed
pub record IsSettled {S : Type 0} (recovers : S → Trees → Type 0) (list : List (List ℕ)) (j : JournalState S) : Type 0 where
  pub is_open : IsHonest j → IsTrue j.is_open
  pub now : IsHonest j → j.now ≡ list
  pub committed : IsHonest j → j.committed ≡ list
  pub durable : IsDurable recovers j

module _ {S : Type 0} (recovers : S → Trees → Type 0) (Shielded : S → Type 0) where
  -- the texts stand behind the statements, and aren't committed
  pub record HasAdded (old new : JournalState S) (texts : List (List ℕ)) : Type 0 where
    pub was_honest : IsHonest new → IsHonest old
    pub is_open : IsHonest new → IsTrue old.is_open → IsTrue new.is_open
    pub now : IsHonest new → new.now ≡ old.now ++ texts
    pub committed : IsHonest new → new.committed ≡ old.committed
    pub crash : AddsNoOutcome recovers Shielded old new
    pub durable : IsDurable recovers old → IsDurable recovers new
    pub counts : old.faults ≤ new.faults

  -- no wrong answer of the disk was taken as true before, unless one is now, and reads are tested if they were
  pub record Follows (old new : JournalState S) : Type 0 where
    pub was_honest : IsHonest new → IsHonest old
    pub shield : Shielded old.store → Shielded new.store
    pub counts : old.faults ≤ new.faults

  -- the texts stand behind the statements, and all are committed
  pub record HasSaved (old new : JournalState S) (texts : List (List ℕ)) : Type 0 where
    pub follows : Follows old new
    pub saved : (list : List (List ℕ)) → IsSettled recovers list old → IsSettled recovers (list ++ texts) new

  -- The call that was to save the texts failed. A crash leaves the statements without them or with them, whole.
  pub record StaysUnsaved (old new : JournalState S) (texts : List (List ℕ)) (e : StoreError) : Type 0 where
    pub follows : Follows old new
    pub either : (list : List (List ℕ)) → IsSettled recovers list old → IsHonest new → (db : Trees) → recovers new.store db → HoldsStatements db list ⊎ HoldsStatements db (list ++ texts)
    pub cause : (list : List (List ℕ)) → IsSettled recovers list old → IsHonest new → MayStayUnsaved (MoreFaults old.faults new.faults) (HasUnfit list texts) e
