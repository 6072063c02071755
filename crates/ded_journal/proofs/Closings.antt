-- What a close keeps of a journal over files.
use Rattle.std.proofs.Common.{◌≡◌, ◌⊎◌, ℕ, ◌≤◌, true, false, List, [], ◌∷◌, map, take, Option, sym, ap, ◌∙◌, subst, arith, inl, inr}
use Rattle.std.proofs.lemmas.Bool.{cases_Bool, both_ways}
use Rattle.std.proofs.Math.Logic.{∥∥₁_elim}
use Rattle.sqlite_disk.specs.Disk.{MoreFaults}
use Rattle.sqlite_disk.specs.declared.Disk.{Ghosts}
use Rattle.sqlite_wal.proofs.LogLemmas.{SeenMayStay}
use Rattle.sqlite_wal.specs.Recovery.{Image}
use Rattle.sqlite_trees.specs.declared.error.StoreError.{StoreError}
use Rattle.sqlite_trees.specs.declared.error.StoreError.TheVariants.{OutOfMemory, Io, Corrupt, Full, Broken, Unstorable}
use Rattle.sqlite_trees.specs.declared.store.Shape.TheVariants.{Table}
use Rattle.sqlite_trees.specs.Objects.{catalog_tree, IsListed}
use Rattle.sqlite_trees.specs.Props.{Trees-set}
use Rattle.sqlite_trees.specs.Tree.{Trees}
use Rattle.sqlite_trees.specs.View.{View, IsClean, HasCause, IsRolledBack}
use Rattle.sqlite_store.specs.declared.store.FileStore.{FileStore}
use Rattle.sqlite_store.specs.FileStore.{state, view, recovers, log_frames}
use Rattle.sqlite_store.specs.Laws.{settled_at, listed_at}
use Rattle.sqlite_catalog.specs.Listing.{IsSound}
use Rattle.sqlite.specs.Held.{AreDatabases}
use Rattle.sqlite.proofs.Theorems.{copied}
use Rattle.ded_journal.specs.Statements.{table_listing, statements_in, HoldsStatements}
use Rattle.ded_journal.specs.Journals.{JournalState, journal_of, IsUndoneTo}
use Rattle.ded_journal.specs.Invariant.{IsKeptBy}
use Rattle.ded_journal.specs.Closing.{HoldsList, HoldsListAlone, ExcusesClose}
use Rattle.ded_journal.specs.Opening.{FindsJournalIn}
use Rattle.ded_journal.proofs.Rows.{statements_are}
use Rattle.ded_journal.proofs.Databases.{schema, sound_of}

-- the store is open, has nothing that is not committed, and its last commit is these statements
pub record IsSettledOn (v : View) (list : List (List ℕ)) : Type 0 where
  pub is_open : v.is_open ≡ true
  pub sound : v.is_broken ≡ false
  pub numbered : v.is_numbered ≡ true
  pub same : v.trees ≡ v.committed
  pub table : v.shape 0 ≡ Table
  pub reals : v.reals 0 ≡ 0
  pub held : HoldsStatements v.committed list

-- so it is after a rollback that leaves it open
pub settled_by_undo : (old new : View) (before : Trees → Type 0) (count kept : ℕ) → IsKeptBy old before count kept → IsRolledBack old new → IsClean new → (IsClean new → IsClean old)
    → new.is_open ≡ true → IsSettledOn new (statements_in old.committed)
settled_by_undo old new before count kept was undone clean back on =
    let as_was = was.unaltered (back clean) in
    let k = undone.kept clean in
    let last = k.committed on in
    record {
      is_open = on;
      sound = (undone.undone on).1;
      numbered = undone.numbered ∙ was.numbered (back clean);
      same = (undone.undone on).0 ∙ sym last;
      table = ap (λ s. s 0) (undone.shape as_was.0) ∙ was.table (back clean);
      reals = ap (λ r. r 0) (undone.reals as_was.1) ∙ was.reals (back clean);
      held = subst (λ db. HoldsStatements db (statements_in old.committed)) (sym last) (was.committed (k.was_open on));
    }

module _ {D : Type 0} {g : Ghosts D} (it : FileStore D g) (stays : SeenMayStay g) (list : List (List ℕ)) (settled : IsSettledOn (view it) list) where
  committed_is_sound : IsSound schema (view it).committed
  committed_is_sound =
      sound_of (view it).committed list (view it).shape (view it).reals settled.held (subst (λ db. IsListed (db catalog_tree) (view it).shape (view it).reals) settled.same (listed_at it settled.sound)) settled.table settled.reals

  are_databases : AreDatabases (recovers it)
  are_databases db may = (schema, subst (IsSound schema) (sym (settled_at it stays db settled.is_open may)) committed_is_sound)

  -- with an empty log, the database file holds the list in each image that a crash may leave
  pub held_alone : log_frames it ≡ 0 → (left : Image) → (state it).may_leave left → HoldsListAlone left list
  held_alone empty left may =
      let found = copied it stays settled.is_open settled.numbered are_databases empty left may in
      record {
        both = record { db = (view it).committed; statements = settled.held; database = found.both };
        alone = record { db = (view it).committed; statements = settled.held; database = found.alone };
      }

not_empty : (db : Trees) (list : List (List ℕ)) → HoldsStatements db list → db catalog_tree ≡ [] → ⊥
not_empty db list held none = let clash : [] ≡ table_listing ∷ [] = sym (ap (map (take 5)) none) ∙ held.listed in cc

-- an open finds the list that the files hold
pub found_again : {S : Type 0} (image : Image) (state : JournalState S) (list : List (List ℕ)) → FindsJournalIn image state → HoldsList image list → state.now ≡ list
found_again image state list finds holds =
    let same : finds.db ≡ holds.db = ∥∥₁_elim holds.database (Trees-set _ _) (λ held. finds.holds holds.db held) in
    let held = subst (λ db. HoldsStatements db list) (sym same) holds.statements in
    elim finds.statements [
      | inl found ↦ sym (statements_are finds.db _ found) ∙ statements_are finds.db list held
      | inr none ↦ absurd (not_empty finds.db list held none.0.unlisted)
    ]

module _ {S : Type 0} (was between now : Option StoreError) (old mid new : View) (faults later last : ℕ) (before midway after : S) where
  -- behind a rollback, a call that changes nothing unless it shuts the store
  pub still_undone : IsUndoneTo (journal_of old faults was before) (journal_of mid later between midway) → (new.is_clean ≡ false → new.is_open ≡ false) → (IsClean new → IsClean mid) → (new.is_open ≡ true → new ≡ mid)
      → (IsClean new → old.is_open ≡ true → (new.is_open ≡ true) ⊎ MoreFaults faults last) → faults ≤ last → IsUndoneTo (journal_of old faults was before) (journal_of new last now after)
  still_undone undone shut back same stays counts =
      let midway = λ (h : new.is_open ≡ true). subst (λ (v : View). v.is_open ≡ true) (same h) h in
      record {
        was_clean = λ h. undone.was_clean (back h);
        was_open = λ h. undone.was_open (midway h);
        stays = stays;
        now_is = λ h. ap (λ (v : View). statements_in v.trees) (same h) ∙ undone.now_is (midway h);
        committed_is = λ h. ap (λ (v : View). statements_in v.committed) (same h) ∙ undone.committed_is (midway h);
        counts = counts;
      }

  pub excused_close : (e : StoreError) → faults ≤ later → later ≤ last → (IsClean new → IsClean mid) → (IsClean mid → old.is_open ≡ true → (mid.is_open ≡ true) ⊎ MoreFaults faults later)
      → (mid.is_open ≡ true → mid.is_broken ≡ false) → (IsClean new → HasCause mid (MoreFaults later last) ⊥ e) → ExcusesClose (journal_of old faults was before) (journal_of new last now after) e
  excused_close OutOfMemory up more back closes mended h = tt
  excused_close Io up more back closes mended h = λ clean. omega (arith, h clean)
  excused_close Corrupt up more back closes mended h = λ clean. omega (arith, h clean)
  excused_close Full up more back closes mended h = λ clean. omega (arith, h clean)
  excused_close Unstorable up more back closes mended h = h
  excused_close Broken up more back closes mended h = λ clean. elim (cases_Bool old.is_open) [
    | inl on ↦ elim (closes (back clean) on) [ inl still ↦ absurd (both_ways _ (mended still) (h clean)) | inr fault ↦ inr (omega (arith, fault)) ]
    | inr off ↦ inl off
  ]
