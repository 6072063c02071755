-- What a call of the store leaves of a journal's invariant and of its state.
use Rattle.std.proofs.Common.{◌≡◌, ◌⊎◌, ℕ, ◌+◌, ◌^◌, ◌<◌, ◌≤◌, Bool, true, false, List, [], ◌∷◌, ◌++◌, length, map, take, Option, refl, sym, ap, ◌∙◌, subst, arith, inl, inr, true≢false, length-append}
use Rattle.std.proofs.lemmas.Bool.{cases_lt}
use Rattle.std.proofs.lemmas.Nat.Bits.{bit_at-zero}
use Rattle.std.proofs.lemmas.List.Elements.{All-from_recursion}
use Rattle.std.specs.Float.{NotNan}
use Rattle.std.specs.Float.Ieee.{is_nan}
use Rattle.sqlite_disk.specs.Disk.{MoreFaults}
use Rattle.sqlite_value.specs.Order.{number as number_of}
use Rattle.sqlite_trees.specs.declared.error.StoreError.{StoreError}
use Rattle.sqlite_trees.specs.declared.error.StoreError.TheVariants.{OutOfMemory, Io, Corrupt, Full, Broken, Unstorable}
use Rattle.sqlite_trees.specs.declared.store.Shape.TheVariants.{Table}
use Rattle.sqlite_trees.specs.Objects.{catalog_tree, version_tree}
use Rattle.sqlite_trees.specs.Tree.{Trees, put_row}
use Rattle.sqlite_trees.specs.View.{View, IsClean, HasCause, SetsTree, KeepsCommitted, IsRolledBack, Commits, IsStorableRow}
use Rattle.sqlite_trees.proofs.TreeLemmas.{not_true}
use Rattle.sqlite.proofs.StateLemmas.{clean_if_open}
use Rattle.ded_journal.specs.Statements.{statement_row, statements_in, HoldsStatements, IsTooLong}
use Rattle.ded_journal.specs.Journals.{journal_of, Leads, IsUndoneTo, Excuses, GivesUp, IsUnfit, IsDurable}
use Rattle.ded_journal.specs.Invariant.{IsKeptBy}
use Rattle.ded_journal.proofs.Rows.{statements_are, holds_own, put_last}

pub open_of : (is_open is_broken : Bool) → (is_open ≡ false → is_broken ≡ true) → is_broken ≡ false → is_open ≡ true
open_of true is_broken law sound = refl
open_of false is_broken law sound = absurd (true≢false (sym (law refl) ∙ sound))

pub kept_itself : (v : View) → KeepsCommitted v v
kept_itself v = record { shape = refl; reals = refl; committed_shape = refl; committed_reals = refl; numbered = refl; was_open = λ h. h; committed = λ _. refl; marks = λ _. refl }

-- a store that is not clean is shut, and little is asked of it
kept_if : (v : View) (recovers : Trees → Type 0) (count kept : ℕ) → (v.is_open ≡ true → IsClean v) → (count < 2 ^ 63) × (kept < 2 ^ 63) → (IsClean v → IsKeptBy v recovers count kept) → IsKeptBy v recovers count kept
kept_if v recovers count kept honest few h = record {
  few = few;
  numbered = λ clean. (h clean).numbered clean;
  table = λ clean. (h clean).table clean;
  reals = λ clean. (h clean).reals clean;
  unaltered = λ clean. (h clean).unaltered clean;
  mended = λ k. (h (honest k)).mended k;
  now = λ k. (h (honest k)).now k;
  committed = λ k. (h (honest k)).committed k;
  counted = λ k. (h (honest k)).counted k;
  found = λ clean. (h clean).found clean;
}

-- the statements once a row has been put under the next number
pub holds_more : (old new : View) (count : ℕ) (text : List ℕ) → HoldsStatements old.trees (statements_in old.trees) → count ≡ length (statements_in old.trees)
    → SetsTree old new 0 (put_row (statement_row (count + 1) text)) → HoldsStatements new.trees (statements_in old.trees ++ text ∷ [])
holds_more old new count text held counted sets = record {
  rows = ap (λ v. v.trees 0) sets.is ∙ ap (put_row (statement_row (count + 1) text)) held.rows ∙ put_last 1 (count + 1) (statements_in old.trees) text (omega (arith, counted));
  listed = ap (λ v. map (take 5) (v.trees catalog_tree)) sets.is ∙ held.listed;
  stamped = ap (λ v. v.trees version_tree) sets.is ∙ held.stamped;
}

module _ (old new : View) (before after : Trees → Type 0) (count kept : ℕ) (was : IsKeptBy old before count kept)
    (shut : new.is_clean ≡ false → new.is_open ≡ false) (back : IsClean new → IsClean old) where
  abbrev FindsAll : Type 0
  FindsAll = IsClean new → (db : Trees) → after db → HoldsStatements db (statements_in db)

  pub no_new_outcome : ((db : Trees) → after db → before db) → FindsAll
  no_new_outcome fewer clean db h = was.found (back clean) db (fewer db h)

  pub kept_by_read : ((db : Trees) → after db → before db) → (IsClean new → new ≡ old) → IsKeptBy new after count kept
  kept_by_read fewer same = kept_if new after count kept (clean_if_open new shut) was.few (λ clean.
      let at = λ (P : View → Type 0). subst P (sym (same clean)) in
      record {
        few = was.few;
        numbered = λ _. at (λ v. v.is_numbered ≡ true) (was.numbered (back clean));
        table = λ _. at (λ v. v.shape 0 ≡ Table) (was.table (back clean));
        reals = λ _. at (λ v. v.reals 0 ≡ 0) (was.reals (back clean));
        unaltered = λ _. at (λ v. (v.shape ≡ v.committed_shape) × (v.reals ≡ v.committed_reals)) (was.unaltered (back clean));
        mended = at (λ v. v.is_open ≡ true → v.is_broken ≡ false) was.mended;
        now = at (λ v. v.is_open ≡ true → HoldsStatements v.trees (statements_in v.trees)) was.now;
        committed = at (λ v. v.is_open ≡ true → HoldsStatements v.committed (statements_in v.committed)) was.committed;
        counted = at (λ v. v.is_open ≡ true → (count ≡ length (statements_in v.trees)) × (kept ≡ length (statements_in v.committed))) was.counted;
        found = no_new_outcome fewer;
      })

  pub kept_by_append : ((db : Trees) → after db → before db) → (old.is_open ≡ false → old.is_broken ≡ true) → (text : List ℕ) → count + 1 < 2 ^ 63
      → (IsClean new → SetsTree old new 0 (put_row (statement_row (count + 1) text))) → IsKeptBy new after (count + 1) kept
  kept_by_append fewer broken text low sets = kept_if new after (count + 1) kept (clean_if_open new shut) (low, was.few.1) (λ clean.
      let made = sets clean in
      let is_open = open_of old.is_open old.is_broken broken made.sound in
      let held = holds_more old new count text (was.now is_open) (was.counted is_open).0 made in
      record {
        few = (low, was.few.1);
        numbered = λ _. ap (λ v. v.is_numbered) made.is ∙ was.numbered (back clean);
        table = λ _. ap (λ v. v.shape 0) made.is ∙ was.table (back clean);
        reals = λ _. ap (λ v. v.reals 0) made.is ∙ was.reals (back clean);
        unaltered = λ _. (
          ap (λ v. v.shape) made.is ∙ (was.unaltered (back clean)).0 ∙ sym (ap (λ v. v.committed_shape) made.is),
          ap (λ v. v.reals) made.is ∙ (was.unaltered (back clean)).1 ∙ sym (ap (λ v. v.committed_reals) made.is),
        );
        mended = λ _. ap (λ v. v.is_broken) made.is ∙ made.sound;
        now = λ _. holds_own new.trees _ held;
        committed = λ _. subst (λ db. HoldsStatements db (statements_in db)) (sym (ap (λ v. v.committed) made.is)) (was.committed is_open);
        counted = λ _. (
          omega (arith, (was.counted is_open).0, length-append (statements_in old.trees) (text ∷ []), ap length (statements_are new.trees _ held)),
          (was.counted is_open).1 ∙ sym (ap (λ v. length (statements_in v.committed)) made.is),
        );
        found = no_new_outcome fewer;
      })

  -- After a rollback the statements are those of the last commit.
  pub kept_by_undo : (mid : View) → FindsAll → (IsClean new → KeepsCommitted old mid) → IsRolledBack mid new → IsKeptBy new after kept kept
  kept_by_undo mid found first undone = kept_if new after kept kept (clean_if_open new shut) (was.few.1, was.few.1) (λ clean.
      let k = first clean in
      let as_was = was.unaltered (back clean) in
      let shape = undone.shape (k.shape ∙ as_was.0 ∙ sym k.committed_shape) ∙ k.shape in
      let reals = undone.reals (k.reals ∙ as_was.1 ∙ sym k.committed_reals) ∙ k.reals in
      let midway = λ (h : new.is_open ≡ true). (undone.kept clean).was_open h in
      let last = λ (h : new.is_open ≡ true). (undone.kept clean).committed h ∙ k.committed (midway h) in
      let now = λ (h : new.is_open ≡ true). (undone.undone h).0 ∙ k.committed (midway h) in
      let holds = λ (h : new.is_open ≡ true). was.committed (k.was_open (midway h)) in
      let counts = λ (h : new.is_open ≡ true). (was.counted (k.was_open (midway h))).1 in
      record {
        few = (was.few.1, was.few.1);
        numbered = λ _. undone.numbered ∙ k.numbered ∙ was.numbered (back clean);
        table = λ _. ap (λ s. s 0) shape ∙ was.table (back clean);
        reals = λ _. ap (λ r. r 0) reals ∙ was.reals (back clean);
        unaltered = λ _. (shape ∙ as_was.0 ∙ sym (undone.committed_shape ∙ k.committed_shape), reals ∙ as_was.1 ∙ sym (undone.committed_reals ∙ k.committed_reals));
        mended = λ h. (undone.undone h).1;
        now = λ h. subst (λ db. HoldsStatements db (statements_in db)) (sym (now h)) (holds h);
        committed = λ h. subst (λ db. HoldsStatements db (statements_in db)) (sym (last h)) (holds h);
        counted = λ h. (counts h ∙ sym (ap (λ db. length (statements_in db)) (now h)), counts h ∙ sym (ap (λ db. length (statements_in db)) (last h)));
        found = found;
      })

  -- what a crash in a commit leaves is what was to be committed, or what it could leave before
  pub found_after_commit : (old.is_open ≡ false → old.is_broken ≡ true) → ((db : Trees) → after db → ((old.is_broken ≡ false) × (db ≡ old.trees)) ⊎ before db) → FindsAll
  found_after_commit broken crash clean db h = elim (crash db h) [
    | inl now ↦ subst (λ x. HoldsStatements x (statements_in x)) (sym now.1) (was.now (open_of old.is_open old.is_broken broken now.0))
    | inr earlier ↦ was.found (back clean) db earlier
  ]

  pub kept_by_commit : (old.is_open ≡ false → old.is_broken ≡ true) → FindsAll → (IsClean new → Commits old new) → IsKeptBy new after count count
  kept_by_commit broken found commits = kept_if new after count count (clean_if_open new shut) (was.few.0, was.few.0) (λ clean.
      let made = commits clean in
      let is_open = open_of old.is_open old.is_broken broken made.sound in
      record {
        few = (was.few.0, was.few.0);
        numbered = λ _. ap (λ v. v.is_numbered) made.is ∙ was.numbered (back clean);
        table = λ _. ap (λ v. v.shape 0) made.is ∙ was.table (back clean);
        reals = λ _. ap (λ v. v.reals 0) made.is ∙ was.reals (back clean);
        unaltered = λ _. (ap (λ v. v.shape) made.is ∙ sym (ap (λ v. v.committed_shape) made.is), ap (λ v. v.reals) made.is ∙ sym (ap (λ v. v.committed_reals) made.is));
        mended = λ _. ap (λ v. v.is_broken) made.is ∙ made.sound;
        now = λ _. subst (λ db. HoldsStatements db (statements_in db)) (sym (ap (λ v. v.trees) made.is)) (was.now is_open);
        committed = λ _. subst (λ db. HoldsStatements db (statements_in db)) (sym (ap (λ v. v.committed) made.is)) (was.now is_open);
        counted = λ _. (
          (was.counted is_open).0 ∙ sym (ap (λ v. length (statements_in v.trees)) made.is),
          (was.counted is_open).0 ∙ sym (ap (λ v. length (statements_in v.committed)) made.is),
        );
        found = found;
      })

module _ {S : Type 0} {was now : Option StoreError} (old new : View) (faults later : ℕ) (before after : S) where
  pub undone_to : (mid : View) → (new.is_clean ≡ false → new.is_open ≡ false) → (IsClean new → IsClean old) → (IsClean new → KeepsCommitted old mid) → IsRolledBack mid new
      → (IsClean new → old.is_open ≡ true → (new.is_open ≡ true) ⊎ MoreFaults faults later) → faults ≤ later → IsUndoneTo (journal_of old faults was before) (journal_of new later now after)
  undone_to mid shut back first undone stays counts =
      let honest = clean_if_open new shut in
      let midway = λ (h : new.is_open ≡ true). (undone.kept (honest h)).was_open h in
      record {
        was_clean = back;
        was_open = λ h. (first (honest h)).was_open (midway h);
        stays = stays;
        now_is = λ h. ap statements_in ((undone.undone h).0 ∙ (first (honest h)).committed (midway h));
        committed_is = λ h. ap statements_in ((undone.kept (honest h)).committed h ∙ (first (honest h)).committed (midway h));
        counts = counts;
      }

-- an append that is done, as it shows
pub appended : {S : Type 0} (old new : View) (faults later : ℕ) (was now : Option StoreError) (before after : S) {recovers : Trees → Type 0} {count kept : ℕ}
    → IsKeptBy old recovers count kept → (IsClean new → IsClean old) → faults ≤ later → (old.is_open ≡ false → old.is_broken ≡ true) → (text : List ℕ)
    → (IsClean new → SetsTree old new 0 (put_row (statement_row (count + 1) text)))
    → Leads (journal_of old faults was before) (journal_of new later now after) (statements_in old.trees ++ text ∷ []) (statements_in old.committed)
appended old new faults later was now before after {recovers} {count} {kept} holds back counts broken text sets =
    let is_open = λ (h : IsClean new). open_of old.is_open old.is_broken broken (sets h).sound in
    record {
      was_clean = back;
      was_open = is_open;
      is_open = λ h. ap (λ v. v.is_open) (sets h).is ∙ is_open h;
      now_is = λ h. statements_are new.trees _ (holds_more old new count text (holds.now (is_open h)) (holds.counted (is_open h)).0 (sets h));
      committed_is = λ h. ap (λ v. statements_in v.committed) (sets h).is;
      counts = counts;
    }

module _ {S : Type 0} (was now : Option StoreError) (old new : View) (faults later : ℕ) (before after : S) where
  pub excused : (mid : ℕ) (P Q : Type 0) (e : StoreError) → mid ≤ later → (old.is_open ≡ true → old.is_broken ≡ false) → (IsClean new → P → Q)
      → (IsClean new → HasCause old (MoreFaults faults mid) P e) → Excuses (journal_of old faults was before) (journal_of new later now after) Q e
  excused mid P Q OutOfMemory up mended f h = tt
  excused mid P Q Io up mended f h = λ clean. omega (arith, h clean)
  excused mid P Q Corrupt up mended f h = λ clean. omega (arith, h clean)
  excused mid P Q Full up mended f h = λ clean. omega (arith, h clean)
  excused mid P Q Broken up mended f h =
      λ clean. elim old.is_open as (λ b. (b ≡ true → old.is_broken ≡ false) → b ≡ false) [ true ↦ λ k. absurd (true≢false (sym (h clean) ∙ k refl)) | false ↦ λ _. refl ] mended
  excused mid P Q Unstorable up mended f h = λ clean. f clean (h clean)

-- a journal that is shut fails for that, and stays as it is
pub shut_gives_up : {S : Type 0} (v : View) (recovers : Trees → Type 0) (count kept faults : ℕ) (was : Option StoreError) (store : S) → IsKeptBy v recovers count kept
    → (v.is_clean ≡ false → v.is_open ≡ false) → (IsClean v → v.is_broken ≡ true) → GivesUp (journal_of v faults was store) (journal_of v faults was store) ⊥ Broken
shut_gives_up v recovers count kept faults was store holds shut broken =
    let never = λ (h : v.is_open ≡ true). true≢false (sym (broken (clean_if_open v shut h)) ∙ holds.mended h) in
    record {
      undone = record { was_clean = λ h. h; was_open = λ h. h; stays = λ _ h. inl h; now_is = λ h. absurd (never h); committed_is = λ h. absurd (never h); counts = omega arith };
      told = λ kind is fault. absurd (true≢false (sym fault));
      cause = λ _. not_true v.is_open never;
    }

-- what a journal that keeps its invariant leaves after a crash
pub durable_of : {S : Type 0} (recovers : S → Trees → Type 0) (v : View) (faults : ℕ) (blamed : Option StoreError) (store : S) (count kept : ℕ) → IsKeptBy v (recovers store) count kept
    → ((db : Trees) → v.is_open ≡ true → recovers store db → db ≡ v.committed) → IsDurable recovers (journal_of v faults blamed store)
durable_of recovers v faults blamed store count kept holds settled = record {
  last_commit = λ is_open db may. subst (λ x. HoldsStatements x (statements_in v.committed)) (sym (settled db is_open may)) (holds.committed is_open);
  something = λ clean. holds.found clean;
}

-- what cannot be put under the next number cannot be added
pub unfit : (old : View) (recovers : Trees → Type 0) (count kept : ℕ) (text : List ℕ) → IsKeptBy old recovers count kept → (old.is_open ≡ false → old.is_broken ≡ true)
    → IsTooLong text ⊎ ((2 ^ 63 ≤ count + 1) × (old.is_broken ≡ false)) → IsUnfit (statements_in old.trees) text
unfit old recovers count kept text holds broken (inl long) = inl long
unfit old recovers count kept text holds broken (inr full) = inr (omega (arith, full.0, (holds.counted (open_of old.is_open old.is_broken broken full.1)).0))

fits : (number : ℕ) (text : List ℕ) → length text ≤ 999999946 → (reals : ℕ) → reals ≡ 0 → IsStorableRow reals (statement_row number text)
unfolding is_nan
fits number text short reals none = rw none (
  record {
    typed = λ c h. absurd (omega (arith, bit_at-zero c, h));
    columns = (omega arith, omega arith);
    numbers = All-from_recursion (λ x. NotNan (number_of x)) (statement_row number text) (tt, (tt, (tt, tt)));
    short = omega (arith, short);
  },
  omega arith,
)

-- a row of a statement is stored, unless its text is too long
pub too_long_from : (number : ℕ) (text : List ℕ) (reals : ℕ) → reals ≡ 0 → ¬ IsStorableRow reals (statement_row number text) → IsTooLong text
too_long_from number text reals none refused = elim (cases_lt 999999946 (length text)) [ inl long ↦ long | inr within ↦ absurd (refused (fits number text within reals none)) ]
