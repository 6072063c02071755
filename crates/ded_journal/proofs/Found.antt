-- What an open finds, and what it makes.
use Rattle.std.proofs.Common.{◌≡◌, ◌⊎◌, ℕ, ◌^◌, ◌<◌, ◌≤◌, true, false, List, [], ◌∷◌, length, map, take, pos, codes, refl, sym, ap, ◌∙◌, subst, arith, inl, inr, true≢false}
use Rattle.sqlite_value.specs.declared.value.Value.TheVariants.{Int, Text}
use Rattle.sqlite_value.specs.Order.{Row, value_cmp}
use Rattle.sqlite_trees.specs.declared.error.StoreError.{StoreError}
use Rattle.sqlite_trees.specs.declared.error.StoreError.TheVariants.{OutOfMemory, Io, Corrupt, Full, Broken, Unstorable}
use Rattle.sqlite_trees.specs.declared.store.Shape.TheVariants.{Table}
use Rattle.sqlite_trees.specs.Objects.{catalog_tree, version_tree, version_rows}
use Rattle.sqlite_trees.specs.Sound.{is_sound_list, fits_kind, is_free_name, begins, same_name, may_follow}
use Rattle.sqlite_trees.specs.Tree.{Trees, put_row}
use Rattle.sqlite_trees.specs.View.{View, IsClean, HasCause, Commits, IsStorable, IsRolledBack}
use Rattle.sqlite_exec.specs.Calls.{OnlyReads}
use Rattle.sqlite_catalog.proofs.StepLemmas.{storable}
use Rattle.sqlite.proofs.StateLemmas.{clean_if_open}
use Rattle.sqlite.specs.Steps.{IsFresh}
use Rattle.sqlite_disk.specs.declared.Disk.{Ghosts}
use Rattle.sqlite_disk.specs.declared.Files.{Files}
use Rattle.sqlite.specs.declared.file.Leftover.{Leftover}
use Rattle.sqlite.specs.declared.file.Leftover.TheVariants as left
use Rattle.sqlite.specs.Files.{LeavesFiles}
use Rattle.ded_journal.specs.Opening.{LeavesJournal}
use Rattle.ded_journal.specs.Statements.{table_text, table_listing, statement_rows, statements_in, stamp, HoldsStatements}
use Rattle.sqlite_disk.specs.Disk.{MoreFaults}
use Rattle.ded_journal.specs.declared.refusal.NotOpened.{NotOpened}
use Rattle.ded_journal.specs.declared.refusal.NotOpened.TheVariants.{Foreign, Newer, Damaged, Busy, Unreachable, Failed}
use Rattle.ded_journal.specs.Journals.{IsExcused, RefusesFor, IsJournal, IsBegun, IsLaid}
use Rattle.ded_journal.specs.Invariant.{IsKeptBy}
use Rattle.ded_journal.proofs.Rows.{statements_are}
use Rattle.ded_journal.proofs.Kept.{open_of}

-- the table in the list of objects
abbrev pub table_object : Row
table_object = Int (pos 1) ∷ Text (codes "table") ∷ Text (codes "statement") ∷ Text (codes "statement") ∷ Text table_text ∷ Int (pos 1) ∷ Int (pos 0) ∷ []

table_is_stored : IsStorable 0 table_object
table_is_stored = storable (pos 1) (pos 1) (pos 0) (codes "table") (codes "statement") (codes "statement") (Text table_text) (length table_text) (omega arith) refl (inl (table_text, refl)) (omega arith)

table_is_sound : is_sound_list (table_object ∷ []) ≡ true
unfolding is_sound_list fits_kind is_free_name begins same_name may_follow value_cmp lib.Ieee.is_nan lib.Ieee.lt
table_is_sound = refl

-- listing the table in a store that has nothing fails for memory or the disk alone
pub table_excused : (v : View) (fault : Type 0) (e : StoreError) → v.is_broken ≡ false → v.trees catalog_tree ≡ []
    → HasCause v fault ((¬ IsStorable 0 table_object) ⊎ (is_sound_list (put_row table_object (v.trees catalog_tree)) ≡ false)) e → IsExcused fault e
table_excused v fault OutOfMemory sound none h = tt
table_excused v fault Io sound none h = h
table_excused v fault Corrupt sound none h = h
table_excused v fault Full sound none h = h
table_excused v fault Broken sound none h = true≢false (sym h ∙ sound)
table_excused v fault Unstorable sound none (inl refused) = refused table_is_stored
table_excused v fault Unstorable sound none (inr unsound) = true≢false (sym table_is_sound ∙ (rw none at unsound))

pub same_stamp : (a b : ℕ) → version_rows a ≡ version_rows b → a ≡ b
same_stamp a b e = cc

module _ (new : View) (after : Trees → Type 0) (shut : new.is_clean ≡ false → new.is_open ≡ false) (settled : (db : Trees) → new.is_open ≡ true → after db → db ≡ new.committed) where
  -- the invariant of a store that is open, with the same statements before and after the last commit
  kept_when_open : (n : ℕ) → n < 2 ^ 63 → (IsClean new → new.is_numbered ≡ true) → (IsClean new → new.is_open ≡ true) → (IsClean new → new.is_broken ≡ false) → (IsClean new → (new.shape ≡ new.committed_shape) × (new.reals ≡ new.committed_reals))
      → (IsClean new → new.trees ≡ new.committed) → (IsClean new → IsJournal new (statements_in new.trees)) → (IsClean new → n ≡ length (statements_in new.trees)) → IsKeptBy new after n n
  kept_when_open n few numbered is_open sound unaltered same journal counted =
      let honest = clean_if_open new shut in
      let holds = λ (h : IsClean new). subst (λ db. HoldsStatements db (statements_in db)) (same h) (journal h).held in
      record {
        few = (few, few);
        numbered = numbered;
        table = λ h. (journal h).table;
        reals = λ h. (journal h).reals;
        unaltered = unaltered;
        mended = λ k. sound (honest k);
        now = λ k. (journal (honest k)).held;
        committed = λ k. holds (honest k);
        counted = λ k. (counted (honest k), counted (honest k) ∙ ap (λ db. length (statements_in db)) (same (honest k)));
        found = λ h db may. subst (λ x. HoldsStatements x (statements_in x)) (sym (settled db (is_open h) may)) (holds h);
      }

  -- the store that a commit has made a journal
  pub kept_as_made : (mid : View) → (IsClean new → IsLaid mid) → (IsClean new → Commits mid new) → IsKeptBy new after 0 0
  kept_as_made mid laid commits =
      let trees = λ (h : IsClean new). ap (λ v. v.trees) (commits h).is in
      let none = λ (h : IsClean new). statements_are new.trees [] (subst (λ db. HoldsStatements db []) (sym (trees h)) (laid h).journal.held) in
      kept_when_open 0 (omega arith) (λ h. ap (λ v. v.is_numbered) (commits h).is ∙ (laid h).numbered) (λ h. ap (λ v. v.is_open) (commits h).is ∙ (laid h).is_open) (λ h. ap (λ v. v.is_broken) (commits h).is ∙ (laid h).sound)
      (λ h. (ap (λ v. v.shape) (commits h).is ∙ sym (ap (λ v. v.committed_shape) (commits h).is), ap (λ v. v.reals) (commits h).is ∙ sym (ap (λ v. v.committed_reals) (commits h).is)))
      (λ h. trees h ∙ sym (ap (λ v. v.committed) (commits h).is))
      (λ h. record {
        held = subst (HoldsStatements new.trees) (sym (none h)) (subst (λ db. HoldsStatements db []) (sym (trees h)) (laid h).journal.held);
        table = ap (λ v. v.shape 0) (commits h).is ∙ (laid h).journal.table;
        reals = ap (λ v. v.reals 0) (commits h).is ∙ (laid h).journal.reals;
      }) (λ h. sym (ap length (none h)))

  module _ (old : View) (broken : old.is_open ≡ false → old.is_broken ≡ true) (back : IsClean new → IsClean old) (fresh : IsClean old → IsFresh old)
      (unaltered : old.is_broken ≡ false → old.trees catalog_tree ≡ old.committed catalog_tree → (old.shape ≡ old.committed_shape) × (old.reals ≡ old.committed_reals))
      (reads : IsClean new → OnlyReads old new)
      (lists : IsClean old → (map (take 5) (old.trees catalog_tree) ≡ table_listing ∷ []) × (old.shape 0 ≡ Table) × (old.reals 0 ≡ 0))
      (stamps : IsClean old → old.trees version_tree ≡ version_rows (stamp 1)) (n : ℕ)
      (here : IsClean new → (list : List (List ℕ)) × (old.trees 0 ≡ statement_rows 1 list) × (n ≡ length list)) where
    as_listed : (h : IsClean new) → HoldsStatements old.trees (here h).0
    as_listed h = record { rows = (here h).1; listed = (lists (back h)).0; stamped = stamps (back h) }

    spelled : (h : IsClean new) → statements_in new.trees ≡ (here h).0
    spelled h = ap (λ v. statements_in v.trees) (reads h) ∙ statements_are old.trees _ (as_listed h)

    as_shown : (h : IsClean new) → HoldsStatements old.trees (statements_in new.trees)
    as_shown h = subst (HoldsStatements old.trees) (sym (spelled h)) (as_listed h)

    still_open : IsClean new → new.is_open ≡ true
    still_open h = ap (λ v. v.is_open) (reads h) ∙ open_of old.is_open old.is_broken broken (fresh (back h)).sound

    still_settled : IsClean new → new.trees ≡ new.committed
    still_settled h = ap (λ v. v.trees) (reads h) ∙ (fresh (back h)).clean ∙ sym (ap (λ v. v.committed) (reads h))

    still_unaltered : IsClean new → (new.shape ≡ new.committed_shape) × (new.reals ≡ new.committed_reals)
    still_unaltered h =
        let as_was = unaltered (fresh (back h)).sound (ap (λ db. db catalog_tree) (fresh (back h)).clean) in
        (ap (λ v. v.shape) (reads h) ∙ as_was.0 ∙ sym (ap (λ v. v.committed_shape) (reads h)), ap (λ v. v.reals) (reads h) ∙ as_was.1 ∙ sym (ap (λ v. v.committed_reals) (reads h)))

    -- the store that a journal was found in
    pub kept_as_found : n < 2 ^ 63 → IsKeptBy new after n n
    kept_as_found few = kept_when_open n few (λ h. ap (λ v. v.is_numbered) (reads h) ∙ (fresh (back h)).numbered) still_open (λ h. ap (λ v. v.is_broken) (reads h) ∙ (fresh (back h)).sound) still_unaltered still_settled
        (λ h. record {
          held = subst (λ db. HoldsStatements db (statements_in new.trees)) (sym (ap (λ v. v.trees) (reads h))) (as_shown h);
          table = ap (λ v. v.shape 0) (reads h) ∙ (lists (back h)).1;
          reals = ap (λ v. v.reals 0) (reads h) ∙ (lists (back h)).2;
        }) (λ h. (here h).2 ∙ sym (ap length (spelled h)))

    pub begun_as_found : IsClean new → IsBegun old new
    begun_as_found h = record { is_open = still_open h; settled = still_settled h; found = inl (as_shown h) }

-- what a rollback of a connection that was just opened leaves
module _ (first after : View) (undone : IsRolledBack first after) (clean : IsClean after) (broken : after.is_open ≡ false → after.is_broken ≡ true) (sound : after.is_broken ≡ false) where
  pub trees_after : after.trees ≡ first.committed
  trees_after = (undone.undone (open_of after.is_open after.is_broken broken sound)).0

  pub fresh_after : after.is_numbered ≡ true → IsFresh after
  fresh_after numbered =
      let is_open = open_of after.is_open after.is_broken broken sound in
      record { sound = sound; numbered = numbered; clean = trees_after ∙ sym ((undone.kept clean).committed is_open); unmarked = (undone.kept clean).marks is_open }

pub excused_since : (a b c : ℕ) (e : StoreError) → a ≤ b → IsExcused (MoreFaults b c) e → IsExcused (MoreFaults a c) e
excused_since a b c OutOfMemory up h = tt
excused_since a b c Io up h = omega arith
excused_since a b c Corrupt up h = omega arith
excused_since a b c Full up h = omega arith
excused_since a b c Broken up h = h
excused_since a b c Unstorable up h = h

pub refuses_since : (v : View) (a b c : ℕ) (e : NotOpened) → a ≤ b → RefusesFor v (MoreFaults b c) e → RefusesFor v (MoreFaults a c) e
refuses_since v a b c Foreign up h = h
refuses_since v a b c (Newer version) up h = h
refuses_since v a b c Damaged up h = h
refuses_since v a b c Busy up h = h
refuses_since v a b c Unreachable up h = h
refuses_since v a b c (Failed e) up h = excused_since a b c e up h

pub leaves_as : {D : Type 0} {g : Ghosts D} (files : Files D) (rest : Leftover D g) → LeavesFiles files rest → LeavesJournal files rest
leaves_as files (left.Files now) h = h
leaves_as files (left.Unopened now) h = h
leaves_as files (left.Store now) h = λ db may. inl (h db may)
