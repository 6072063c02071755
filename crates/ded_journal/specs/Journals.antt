-- What a journal shows, and what each call does to it.
use Rattle.std.specs.Prelude.{◌≡◌, ◌⊎◌, ℕ, ◌+◌, ◌^◌, ◌<◌, ◌≤◌, Bool, true, false, IsTrue, List, [], length, Option, refl, ⊤}
use Rattle.std.specs.Coded.{Coded, code_by, coded×, coded_ℕ, coded_bool, coded_list, coded_option}
use Rattle.sqlite_disk.specs.Disk.{MoreFaults}
use Rattle.sqlite_trees.specs.declared.error.StoreError.{StoreError}
use Rattle.sqlite_trees.specs.declared.error.StoreError.TheVariants.{OutOfMemory, Io, Corrupt, Full, Broken, Unstorable}
use Rattle.sqlite_trees.specs.contracts.error.StoreError.{the_row}
use Rattle.sqlite_trees.specs.declared.store.Shape.TheVariants.{Table}
use Rattle.sqlite_trees.specs.Objects.{version_tree, version_rows}
use Rattle.sqlite_trees.specs.Tree.{Trees}
use Rattle.sqlite_trees.specs.View.{View, Tells, doubt}
use Rattle.sqlite.specs.declared.error.Error.{Error}
use Rattle.sqlite.specs.declared.error.Error.TheVariants.{SqliteFailure}
use Rattle.sqlite.specs.declared.error.ErrorCode.TheVariants as code
use Rattle.ded_journal.specs.Statements.{statements_in, stamp, HoldsStatements, IsUnwritten, IsTooLong}
use Rattle.ded_journal.specs.declared.refusal.NotOpened.{NotOpened}
use Rattle.ded_journal.specs.declared.refusal.NotOpened.TheVariants.{Foreign, Newer, Damaged, Busy, Unreachable, Failed}

-- What contracts see of a journal over a store of type S.
pub record JournalState (S : Type 0) : Type 0 where
  -- the statements with those that wait for a commit, and as the last commit left them; they say nothing once the journal is shut
  pub now : List (List ℕ)
  pub committed : List (List ℕ)
  -- false from a failure that only another open mends
  pub is_open : Bool
  -- 0 while no wrong answer of the disk has been taken as true; above 0 the journal shows as shut
  pub doubt : ℕ
  -- how many times the disk has failed
  pub faults : ℕ
  -- the last error of the store, where it keeps that
  pub blamed : Option StoreError
  -- for clauses on what a crash may leave
  pub store : S

-- no wrong answer of the disk has been taken as true
abbrev pub IsHonest : {S : Type 0} → JournalState S → Type 0
IsHonest state = state.doubt ≡ 0

-- that such a state is data wherever the store is: its parts in order, as a tuple
abbrev pub journal_code : {S : Type 0} → Coded S → Coded (JournalState S)
journal_code {S} store =
    code_by (List (List ℕ) × (List (List ℕ) × (Bool × (ℕ × (ℕ × (Option StoreError × S))))))
    (coded× (coded_list (coded_list coded_ℕ)) (coded× (coded_list (coded_list coded_ℕ)) (coded× coded_bool (coded× coded_ℕ (coded× coded_ℕ (coded× (coded_option the_row.coded) store))))))
    (λ s. (s.now, (s.committed, (s.is_open, (s.doubt, (s.faults, (s.blamed, s.store)))))))
    (λ p. record { now = p.0; committed = p.1.0; is_open = p.1.1.0; doubt = p.1.1.1.0; faults = p.1.1.1.1.0; blamed = p.1.1.1.1.1.0; store = p.1.1.1.1.1.1 })
    (λ _. refl)

-- what a journal over a store shows
abbrev pub journal_of : {S : Type 0} → View → ℕ → Option StoreError → S → JournalState S
journal_of v faults blamed store = record {
  now = statements_in v.trees;
  committed = statements_in v.committed;
  is_open = v.is_open;
  doubt = doubt v.is_clean;
  faults = faults;
  blamed = blamed;
  store = store;
}

-- The journal was just opened on this database: it has its statements, or there was nothing yet and it has none.
pub record OpensOn {S : Type 0} (db : Trees) (state : JournalState S) : Type 0 where
  pub is_open : IsHonest state → IsTrue state.is_open
  pub settled : IsHonest state → state.now ≡ state.committed
  pub found : IsHonest state → HoldsStatements db state.now ⊎ (IsUnwritten db × (state.now ≡ []))

module _ {S : Type 0} (old new : JournalState S) where
  -- the call has done what it was asked to: the journal was open and is, and these are its statements
  pub record Leads (now committed : List (List ℕ)) : Type 0 where
    pub was_clean : IsHonest new → IsHonest old
    pub was_open : IsHonest new → IsTrue old.is_open
    pub is_open : IsHonest new → IsTrue new.is_open
    pub now_is : IsHonest new → new.now ≡ now
    pub committed_is : IsHonest new → new.committed ≡ committed
    pub counts : old.faults ≤ new.faults

  -- what was not committed is gone, unless the journal is shut, and only a fault of the disk shuts it
  pub record IsUndoneTo : Type 0 where
    pub was_clean : IsHonest new → IsHonest old
    pub was_open : IsTrue new.is_open → IsTrue old.is_open
    pub stays : IsHonest new → IsTrue old.is_open → IsTrue new.is_open ⊎ MoreFaults old.faults new.faults
    pub now_is : IsTrue new.is_open → new.now ≡ old.committed
    pub committed_is : IsTrue new.is_open → new.committed ≡ old.committed
    pub counts : old.faults ≤ new.faults

  -- why a call may fail, where `unfit` says that it was asked for what cannot be stored
  abbrev pub Excuses : Type 0 → StoreError → Type 0
  Excuses unfit OutOfMemory = ⊤
  Excuses unfit Io = IsHonest new → MoreFaults old.faults new.faults
  Excuses unfit Corrupt = IsHonest new → MoreFaults old.faults new.faults
  Excuses unfit Full = IsHonest new → MoreFaults old.faults new.faults
  Excuses unfit Broken = IsHonest new → old.is_open ≡ false
  Excuses unfit Unstorable = IsHonest new → unfit

  -- the call has failed for a cause, and the transaction is undone
  pub record GivesUp (unfit : Type 0) (e : StoreError) : Type 0 where
    pub undone : IsUndoneTo
    pub told : Tells new.blamed e
    pub cause : Excuses unfit e

-- the text is too long, or all numbers are taken
abbrev pub IsUnfit : List (List ℕ) → List ℕ → Type 0
IsUnfit list text = IsTooLong text ⊎ (2 ^ 63 ≤ length list + 1)

module _ {S : Type 0} (recovers : S → Trees → Type 0) where
  -- While the journal is open, a crash leaves the last commit, whole; and at any time some list of statements, whole.
  pub record IsDurable (state : JournalState S) : Type 0 where
    pub last_commit : IsTrue state.is_open → (db : Trees) → recovers state.store db → HoldsStatements db state.committed
    pub something : IsHonest state → (db : Trees) → recovers state.store db → HoldsStatements db (statements_in db)

  module _ (Shielded : S → Type 0) where
    -- a crash leaves nothing that it could not leave before, and reads are tested if they were
    pub record AddsNoOutcome (old new : JournalState S) : Type 0 where
      pub outcomes : (db : Trees) → recovers new.store db → recovers old.store db
      pub shield : Shielded old.store → Shielded new.store

    -- A crash in the commit, or after it, leaves the last commit or what was to be committed, whole; of a shut journal, what it could leave before.
    pub record LeavesOneOf (old new : JournalState S) : Type 0 where
      pub either : IsTrue old.is_open → (db : Trees) → recovers new.store db → HoldsStatements db old.now ⊎ HoldsStatements db old.committed
      pub shut : old.is_open ≡ false → (db : Trees) → recovers new.store db → recovers old.store db
      pub shield : Shielded old.store → Shielded new.store

  -- some database that a crash may leave of the journal has this list
  pub record IsFoundIn (state : JournalState S) (list : List (List ℕ)) : Type 0 where
    pub db : Trees
    pub may : recovers state.store db
    pub held : HoldsStatements db list

  -- A crash leaves what it could leave before or, of a database with nothing yet, a journal with no statement.
  abbrev pub AddsOnlyNone : S → S → Trees → Type 0
  AddsOnlyNone old new held = (db : Trees) → recovers new db → recovers old db ⊎ (IsUnwritten held × HoldsStatements db [])

  -- a crash leaves this database or, of one with nothing yet, a journal with no statement
  abbrev pub LeavesFound : Trees → S → Type 0
  LeavesFound held new = (db : Trees) → recovers new db → (db ≡ held) ⊎ (IsUnwritten held × HoldsStatements db [])

-- why a call on an open store may fail that stores nothing unfit
abbrev pub IsExcused : Type 0 → StoreError → Type 0
IsExcused fault OutOfMemory = ⊤
IsExcused fault Io = fault
IsExcused fault Corrupt = fault
IsExcused fault Full = fault
IsExcused fault Broken = ⊥
IsExcused fault Unstorable = ⊥

-- the store has a table for the statements, and these are in it
pub record IsJournal (v : View) (list : List (List ℕ)) : Type 0 where
  pub held : HoldsStatements v.trees list
  pub table : v.shape 0 ≡ Table
  pub reals : v.reals 0 ≡ 0

-- Why a store is refused: it has something, be it a user version, and is stamped as no journal, it is stamped by a newer version, it is stamped by this one and is no
-- journal, or a call failed.
abbrev pub RefusesFor : View → Type 0 → NotOpened → Type 0
RefusesFor v fault Foreign = ¬ (IsUnwritten v.trees) × ((version : ℕ) → 0 < version → version < 256 → ¬ (v.trees version_tree ≡ version_rows (stamp version)))
RefusesFor v fault (Newer version) = (1 < version) × (version < 256) × (v.trees version_tree ≡ version_rows (stamp version))
RefusesFor v fault Damaged = (v.trees version_tree ≡ version_rows (stamp 1)) × ((list : List (List ℕ)) → ¬ IsJournal v list)
RefusesFor v fault Busy = ⊥
RefusesFor v fault Unreachable = ⊥
RefusesFor v fault (Failed e) = IsExcused fault e

-- the store is open, and its last commit is the statements that it had or, if it had nothing yet, none
pub record IsBegun (old new : View) : Type 0 where
  pub is_open : IsTrue new.is_open
  pub settled : new.trees ≡ new.committed
  pub found : HoldsStatements old.trees (statements_in new.trees) ⊎ (IsUnwritten old.trees × (statements_in new.trees ≡ []))

-- nothing was changed: it is no failure but a refusal
abbrev pub is_refusal : NotOpened → Bool
is_refusal Foreign = true
is_refusal (Newer version) = true
is_refusal Damaged = true
is_refusal Busy = true
is_refusal Unreachable = true
is_refusal (Failed e) = false

-- the store shows a journal with no statement, which is not committed yet
pub record IsLaid (v : View) : Type 0 where
  pub journal : IsJournal v []
  pub numbered : IsTrue v.is_numbered
  pub is_open : IsTrue v.is_open
  pub sound : v.is_broken ≡ false

-- The name of an error of an open: a file that is no database is someone else's, and one that is ill formed is damaged.
abbrev pub named_error : Error → NotOpened
named_error (SqliteFailure code.NotADatabase) = Foreign
named_error (SqliteFailure code.DatabaseCorrupt) = Damaged
named_error (SqliteFailure code.DatabaseBusy) = Busy
named_error (SqliteFailure code.CannotOpen) = Unreachable
named_error (SqliteFailure code.OutOfMemory) = Failed OutOfMemory
named_error (SqliteFailure code.DiskFull) = Failed Full
named_error (SqliteFailure code.TooBig) = Failed Unstorable
named_error (SqliteFailure code.Closed) = Failed Broken
named_error _ = Failed Io
