-- Texts that are added one by one, committed, or not.
use Rattle.std.proofs.Common.{◌≡◌, ◌≤◌, ◌+◌, ℕ, Bool, true, false, IsTrue, List, [], ◌∷◌, ◌++◌, take, length, slice_get, Some, Result, Ok, Err, OnOk, IfErr, refl, sym, ap, ◌∙◌, append_assoc, append-nil, subst, inl, inr, arith, ⊎_elim}
use Rattle.std.proofs.lemmas.List.{take_all, take_more, nil_from_length}
use Rattle.std.proofs.lemmas.Option.{slice_get_within, get_or_from_slice_get}
use Rattle.sqlite_disk.specs.Disk.{MoreFaults}
use Rattle.sqlite_trees.specs.declared.error.StoreError.{StoreError}
use Rattle.sqlite_trees.specs.declared.error.StoreError.TheVariants.{OutOfMemory, Io, Corrupt, Full, Broken, Unstorable}
use Rattle.sqlite_trees.specs.Tree.{Trees}
use Rattle.ded_journal.specs.Journals.{JournalState, IsHonest, IsUnfit, IsDurable, Leads, GivesUp, Excuses, AddsNoOutcome, LeavesOneOf}
use Rattle.ded_journal.specs.Statements.{HoldsStatements}
use Rattle.ded_recording.specs.Saving.{IsSettled, Follows, HasUnfit, MayStayUnsaved, HasAdded, HasSaved, StaysUnsaved}

pub take_one : (xs : List (List ℕ)) (at : ℕ) (x : List ℕ) → slice_get xs at ≡ Some x → take (at + 1) xs ≡ take at xs ++ x ∷ []
take_one xs at x is = take_more xs at x (slice_get_within xs at x is) ∙ ap (λ (y : List ℕ). take at xs ++ y ∷ []) (get_or_from_slice_get xs at x x is)

module _ {S : Type 0} (recovers : S → Trees → Type 0) where
  -- a crash leaves what is settled
  pub settled_holds : (list : List (List ℕ)) (j : JournalState S) → IsSettled recovers list j → IsHonest j → (db : Trees) → recovers j.store db → HoldsStatements db list
  settled_holds list j s honest db may = subst (λ (l : List (List ℕ)). HoldsStatements db l) (s.committed honest) (s.durable.last_commit (s.is_open honest) db may)

  -- what is settled is settled as what the journal has
  pub settled_now : (list : List (List ℕ)) (j : JournalState S) → IsSettled recovers list j → IsSettled recovers j.now j
  settled_now list j s = record { is_open = s.is_open; now = λ _. refl; committed = λ h. s.committed h ∙ sym (s.now h); durable = s.durable }

module _ {S : Type 0} (recovers : S → Trees → Type 0) (Shielded : S → Type 0) where
  -- where no call was made
  pub follows_itself : (j : JournalState S) → Follows recovers Shielded j j
  follows_itself j = record { was_honest = λ h. h; shield = λ s. s; counts = omega arith }

  -- one behind another
  pub follows_on : (j k l : JournalState S) → Follows recovers Shielded j k → Follows recovers Shielded k l → Follows recovers Shielded j l
  follows_on j k l f g = record { was_honest = λ h. f.was_honest (g.was_honest h); shield = λ s. g.shield (f.shield s); counts = omega (arith, f.counts, g.counts) }

  -- ---- texts added one by one

  pub added_none : (j : JournalState S) → HasAdded recovers Shielded j j []
  added_none j = record {
    was_honest = λ h. h;
    is_open = λ h o. o;
    now = λ h. sym (append-nil j.now);
    committed = λ h. refl;
    crash = record { outcomes = λ db may. may; shield = λ s. s };
    durable = λ d. d;
    counts = omega arith;
  }

  module _ (old j k : JournalState S) (texts : List (List ℕ)) where
    added_one : (before : List (List ℕ)) (text : List ℕ) → HasAdded recovers Shielded old j before → texts ≡ before ++ text ∷ [] → Leads j k (j.now ++ text ∷ []) j.committed → AddsNoOutcome recovers Shielded j k → IsDurable recovers k → HasAdded recovers Shielded old k texts
    added_one before text a all l crash durable = record {
      was_honest = λ h. a.was_honest (l.was_clean h);
      is_open = λ h o. l.is_open h;
      now = λ h. l.now_is h ∙ ap (λ (x : List (List ℕ)). x ++ text ∷ []) (a.now (l.was_clean h)) ∙ append_assoc old.now before (text ∷ []) ∙ ap (λ (x : List (List ℕ)). old.now ++ x) (sym all);
      committed = λ h. l.committed_is h ∙ a.committed (l.was_clean h);
      crash = record { outcomes = λ db may. a.crash.outcomes db (crash.outcomes db may); shield = λ s. crash.shield (a.crash.shield s) };
      durable = λ d. durable;
      counts = omega (arith, a.counts, l.counts);
    }

  pub added_next : (old j k : JournalState S) (list : List (List ℕ)) (at : ℕ) (text : List ℕ) → slice_get list at ≡ Some text → HasAdded recovers Shielded old j (take at list) → Leads j k (j.now ++ text ∷ []) j.committed → AddsNoOutcome recovers Shielded j k → IsDurable recovers k → HasAdded recovers Shielded old k (take (at + 1) list)
  added_next old j k list at text is a l crash durable = added_one old j k (take (at + 1) list) (take at list) text a (take_one list at text is) l crash durable

  more_since : (a b c : ℕ) → a ≤ b → MoreFaults b c → MoreFaults a c
  more_since a b c le more = omega (arith, le, more)

  -- a cause is one since an earlier moment, whatever can't be stored
  pub caused : (a b c : ℕ) (unfit : Type 0) (e : StoreError) → a ≤ b → MayStayUnsaved (MoreFaults b c) unfit e → MayStayUnsaved (MoreFaults a c) (Unit {0}) e
  caused a b c unfit OutOfMemory le x = tt
  caused a b c unfit Io le x = more_since a b c le x
  caused a b c unfit Corrupt le x = more_since a b c le x
  caused a b c unfit Full le x = more_since a b c le x
  caused a b c unfit Broken le x = absurd x
  caused a b c unfit Unstorable le x = tt

  not_shut : (b : Bool) → IsTrue b → b ≡ false → ⊥
  not_shut b opens shut = differ (sym shut ∙ opens)
    where
      differ : false ≡ true → ⊥
      differ e = cc

  -- ---- a call failed

  excused : (old j k : JournalState S) (list texts : List (List ℕ)) (unfit : Type 0) (e : StoreError) → old.faults ≤ j.faults → (IsHonest k → IsTrue j.is_open) → (IsHonest k → unfit → HasUnfit list texts) → Excuses j k unfit e → IsHonest k → MayStayUnsaved (MoreFaults old.faults k.faults) (HasUnfit list texts) e
  excused old j k list texts unfit OutOfMemory le opens fits x honest = tt
  excused old j k list texts unfit Io le opens fits x honest = more_since old.faults j.faults k.faults le (x honest)
  excused old j k list texts unfit Corrupt le opens fits x honest = more_since old.faults j.faults k.faults le (x honest)
  excused old j k list texts unfit Full le opens fits x honest = more_since old.faults j.faults k.faults le (x honest)
  excused old j k list texts unfit Broken le opens fits x honest = not_shut j.is_open (opens honest) (x honest)
  excused old j k list texts unfit Unstorable le opens fits x honest = fits honest (x honest)

  pub stays_unadded : (old j k : JournalState S) (texts : List (List ℕ)) (at : ℕ) (text : List ℕ) (e : StoreError) → slice_get texts at ≡ Some text → HasAdded recovers Shielded old j (take at texts) → GivesUp j k (IsUnfit j.now text) e → AddsNoOutcome recovers Shielded j k → StaysUnsaved recovers Shielded old k texts e
  stays_unadded old j k texts at text e is a g crash = record {
    follows = record {
      was_honest = λ h. a.was_honest (g.undone.was_clean h);
      shield = λ s. crash.shield (a.crash.shield s);
      counts = omega (arith, a.counts, g.undone.counts);
    };
    either = λ list s h db may. inl (settled_holds recovers list old s (a.was_honest (g.undone.was_clean h)) db (a.crash.outcomes db (crash.outcomes db may)));
    cause = λ list s h.
        excused old j k list texts (IsUnfit j.now text) e a.counts
        (λ h. a.is_open (g.undone.was_clean h) (s.is_open (a.was_honest (g.undone.was_clean h))))
        (λ h unfit. record {
          place = at;
          text = text;
          is = is;
          unfit = subst (λ (l : List (List ℕ)). IsUnfit l text) (a.now (g.undone.was_clean h) ∙ ap (λ (l : List (List ℕ)). l ++ take at texts) (s.now (a.was_honest (g.undone.was_clean h)))) unfit;
        })
        g.cause h;
  }

  module _ (old j k : JournalState S) (texts : List (List ℕ)) (count at : ℕ) (counts : count ≡ length texts) (all : count ≤ at) (taken : HasAdded recovers Shielded old j (take at texts)) where
    a : HasAdded recovers Shielded old j texts
    a = subst (λ (l : List (List ℕ)). HasAdded recovers Shielded old j l) (take_all at texts (omega (arith, counts, all))) taken

    have : (list : List (List ℕ)) → IsSettled recovers list old → IsHonest j → j.now ≡ list ++ texts
    have list s h = a.now h ∙ ap (λ (l : List (List ℕ)). l ++ texts) (s.now (a.was_honest h))

    pub stays_uncommitted : (e : StoreError) → GivesUp j k ⊥ e → LeavesOneOf recovers Shielded j k → StaysUnsaved recovers Shielded old k texts e
    stays_uncommitted e g crash = record {
      follows = record {
        was_honest = λ h. a.was_honest (g.undone.was_clean h);
        shield = λ s. crash.shield (a.crash.shield s);
        counts = omega (arith, a.counts, g.undone.counts);
      };
      either = λ list s h db may.
          let before : IsHonest j = g.undone.was_clean h in
          ⊎_elim
          (λ now. inr (subst (λ (l : List (List ℕ)). HoldsStatements db l) (have list s before) now))
          (λ last. inl (subst (λ (l : List (List ℕ)). HoldsStatements db l) (a.committed before ∙ s.committed (a.was_honest before)) last))
          (crash.either (a.is_open before (s.is_open (a.was_honest before))) db may);
      cause = λ list s h.
          excused old j k list texts ⊥ e a.counts
          (λ h. a.is_open (g.undone.was_clean h) (s.is_open (a.was_honest (g.undone.was_clean h))))
          (λ h never. absurd never)
          g.cause h;
    }

    pub saved_all : Leads j k j.now j.now → LeavesOneOf recovers Shielded j k → IsDurable recovers k → HasSaved recovers Shielded old k texts
    saved_all l crash durable = record {
      follows = record {
        was_honest = λ h. a.was_honest (l.was_clean h);
        shield = λ s. crash.shield (a.crash.shield s);
        counts = omega (arith, a.counts, l.counts);
      };
      saved = λ list s. record {
        is_open = l.is_open;
        now = λ h. l.now_is h ∙ have list s (l.was_clean h);
        committed = λ h. l.committed_is h ∙ have list s (l.was_clean h);
        durable = durable;
      };
    }

  -- there was nothing to add
  pub saved_none : (j : JournalState S) (texts : List (List ℕ)) → length texts ≡ 0 → HasSaved recovers Shielded j j texts
  saved_none j texts none = record {
    follows = follows_itself j;
    saved = λ list s. subst (λ (l : List (List ℕ)). IsSettled recovers l j) (sym (append-nil list) ∙ ap (λ (l : List (List ℕ)). list ++ l) (sym (nil_from_length texts none))) s;
  }

  -- ---- how a call ended

  pub if_done : {T E : Type 0} (r : Result T E) (P Q : Type 0) → OnOk r P → (P → Q) → OnOk r Q
  if_done (Ok x) P Q p f = f p
  if_done (Err e) P Q p f = tt

  pub if_failed : {T E : Type 0} (r : Result T E) (P Q : E → Type 0) → IfErr r P → ((e : E) → P e → Q e) → IfErr r Q
  if_failed (Ok x) P Q p f = tt
  if_failed (Err e) P Q p f = f e p

  pub if_any : {T E : Type 0} (r : Result T E) (P : Type 0) → P → IfErr r (λ _. P)
  if_any (Ok x) P p = tt
  if_any (Err e) P p = p
