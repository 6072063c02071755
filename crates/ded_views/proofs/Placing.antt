-- What a catalogue says of a name, from its entry and the entries before it.
--
-- Meanings, measures, what is known of names and what they reach are folds over the entries in order. Each entry has a new name, so those after an entry
-- change nothing of its own name, nor of a name that is known before it.
use Rattle.std.proofs.Common.{◌≡◌, ℕ, Bool, true, false, cond, List, [], ◌∷◌, ◌++◌, Some, None, is_some, refl, sym, ap, ◌∙◌, subst, true≢false, bytes_eq}
use Rattle.std.proofs.lemmas.Option.{same_Some, none-some}
use Rattle.std.proofs.lemmas.Slice.Eq.{bytes_eq-Decides}
use Rattle.std.specs.Prelude.{MatchBool}
use Rattle.ded_model.specs.Value.{Meaning}
use Rattle.ded_model.specs.Catalogue.{Entry, Catalogue, entry_name, entry_meaning, with_entry, meaning_from, stored}
use Rattle.ded_model.specs.Made.{is_made}
use Rattle.ded_model.specs.Entries.{known, entry_of}
use Rattle.ded_model.specs.Known.{KnownNames, IsEntryOver, IsNewName, AreEntriesOver, IsWellFormed, entry_known, with_known, known_from, known_of}
use Rattle.ded_model.specs.Measure.{Measures, entry_measure, with_measure, measures_from, stored_measures}
use Rattle.ded_views.specs.Reaching.{entry_reaches, with_reach, reach_from, reaches}
use Rattle.ded_views.proofs.Folds.{there, kept}
use Rattle.ded_sorts.proofs.KnownEntries.{absent}

-- ---- before any entry

abbrev pub none_known : KnownNames
none_known n = None

abbrev pub none_means : Meaning
none_means n den xs = ⊥

abbrev pub none_measured : Measures
none_measured n = record { b = 0; rank = 0; lines = []; clash = false; columns = 0 }

abbrev pub none_reached : List ℕ → List ℕ → Bool
none_reached n m = false

pub known-is : (c : Catalogue) → known c ≡ known_from none_known c.entries
unfolding known_of
known-is c = refl

meaning-is : (c : Catalogue) → stored c ≡ meaning_from none_means c.entries
unfolding stored
meaning-is c = refl

measures-is : (c : Catalogue) → stored_measures c ≡ measures_from none_measured c.entries
unfolding stored_measures
measures-is c = refl

pub reaches-is : (c : Catalogue) → reaches c ≡ reach_from none_reached c.entries
unfolding reaches
reaches-is c = refl

-- ---- one entry more

-- its own name means what the entry does
pub means_own : (I : Meaning) (e : Entry) (n : List ℕ) → bytes_eq n (entry_name e) ≡ true → with_entry I e n ≡ entry_meaning I e
means_own I e n h = λ i den xs. MatchBool (h i) (entry_meaning I e den xs) (I n den xs)

-- and reaches what the entry does
reaches_own : (R : List ℕ → List ℕ → Bool) (e : Entry) (n : List ℕ) → bytes_eq n (entry_name e) ≡ true → with_reach R e n ≡ entry_reaches R e
reaches_own R e n h = λ i m. cond (h i) (entry_reaches R e m) (R n m)

-- of another name all stays
pub means_other : (I : Meaning) (e : Entry) (n : List ℕ) → bytes_eq n (entry_name e) ≡ false → with_entry I e n ≡ I n
means_other I e n h = λ i den xs. MatchBool (h i) (entry_meaning I e den xs) (I n den xs)

pub reaches_other : (R : List ℕ → List ℕ → Bool) (e : Entry) (n : List ℕ) → bytes_eq n (entry_name e) ≡ false → with_reach R e n ≡ R n
reaches_other R e n h = λ i m. cond (h i) (entry_reaches R e m) (R n m)

pub known_other : (K : KnownNames) (e : Entry) (n : List ℕ) → bytes_eq n (entry_name e) ≡ false → with_known K e n ≡ K n
known_other K e n h = ap (λ c. cond c (Some (entry_known K e)) (K n)) h

measures_other : (M : Measures) (e : Entry) (n : List ℕ) → bytes_eq n (entry_name e) ≡ false → with_measure M e n ≡ M n
measures_other M e n h = ap (λ c. cond c (entry_measure M e) (M n)) h

-- ---- a name that no entry after this one has

known_there : (c : Catalogue) (before after : List Entry) (e : Entry) (n : List ℕ) → c.entries ≡ before ++ e ∷ after → entry_of after n ≡ None
    → known c n ≡ with_known (known_from none_known before) e n
known_there c before after e n p l =
    ap (λ J. J n) (known-is c) ∙ there with_known known_from (λ J. refl) (λ J d es. refl) known_other before after c.entries e none_known n p l

meaning_there : (c : Catalogue) (before after : List Entry) (e : Entry) (n : List ℕ) → c.entries ≡ before ++ e ∷ after → entry_of after n ≡ None
    → stored c n ≡ with_entry (meaning_from none_means before) e n
meaning_there c before after e n p l =
    ap (λ J. J n) (meaning-is c) ∙ there with_entry meaning_from (λ J. refl) (λ J d es. refl) means_other before after c.entries e none_means n p l

measure_there : (c : Catalogue) (before after : List Entry) (e : Entry) (n : List ℕ) → c.entries ≡ before ++ e ∷ after → entry_of after n ≡ None
    → stored_measures c n ≡ with_measure (measures_from none_measured before) e n
measure_there c before after e n p l =
    ap (λ J. J n) (measures-is c) ∙ there with_measure measures_from (λ J. refl) (λ J d es. refl) measures_other before after c.entries e none_measured n p l

reach_there : (c : Catalogue) (before after : List Entry) (e : Entry) (n : List ℕ) → c.entries ≡ before ++ e ∷ after → entry_of after n ≡ None
    → reaches c n ≡ with_reach (reach_from none_reached before) e n
reach_there c before after e n p l =
    ap (λ J. J n) (reaches-is c) ∙ there with_reach reach_from (λ J. refl) (λ J d es. refl) reaches_other before after c.entries e none_reached n p l

-- ---- a name of no entry

-- nothing is known of a name that no entry has
pub unknown : (c : Catalogue) (n : List ℕ) → entry_of c.entries n ≡ None → known c n ≡ None
unknown c n h = ap (λ K. K n) (known-is c) ∙ kept with_known known_from (λ J. refl) (λ J e es. refl) known_other c.entries none_known n h

-- it holds nowhere
pub meaningless : (c : Catalogue) (n : List ℕ) → entry_of c.entries n ≡ None → stored c n ≡ none_means n
meaningless c n h = ap (λ I. I n) (meaning-is c) ∙ kept with_entry meaning_from (λ J. refl) (λ J e es. refl) means_other c.entries none_means n h

-- has no rows
pub unmeasured : (c : Catalogue) (n : List ℕ) → entry_of c.entries n ≡ None → stored_measures c n ≡ none_measured n
unmeasured c n h = ap (λ M. M n) (measures-is c) ∙ kept with_measure measures_from (λ J. refl) (λ J e es. refl) measures_other c.entries none_measured n h

-- and reaches none
pub unreached : (c : Catalogue) (n : List ℕ) → entry_of c.entries n ≡ None → reaches c n ≡ none_reached n
unreached c n h = ap (λ R. R n) (reaches-is c) ∙ kept with_reach reach_from (λ J. refl) (λ J e es. refl) reaches_other c.entries none_reached n h

-- ---- known names

-- a known name isn't a new one
not_new : (K : KnownNames) (n m : List ℕ) → K m ≡ None → is_some (K n) ≡ true → bytes_eq n m ≡ false
not_new K n m new k = by (bytes_eq n m) refl
  where
    by : (b : Bool) → bytes_eq n m ≡ b → b ≡ false
    by true b = absurd (true≢false (sym k ∙ ap is_some (ap K ((bytes_eq-Decides n m).0 b) ∙ new)))
    by false b = refl

-- ---- the entry of a name

-- it has the name, which is new to the entries before it, and is well formed over these
record IsPlaced (limit : ℕ) (K : KnownNames) (es : List Entry) (n : List ℕ) (e : Entry) : Type 0 where
  before : List Entry
  after : List Entry
  parts : es ≡ before ++ e ∷ after
  named : n ≡ entry_name e
  new : IsNewName (known_from K before) (entry_name e)
  over : IsEntryOver limit (known_from K before) e
  rest : AreEntriesOver limit (with_known (known_from K before) e) after

placed : (limit : ℕ) (K : KnownNames) (es : List Entry) (n : List ℕ) (e : Entry) → AreEntriesOver limit K es → entry_of es n ≡ Some e → IsPlaced limit K es n e
placed limit K [] n e w h = absurd (none-some e h)
placed limit K (d ∷ es) n e w h = by (bytes_eq n (entry_name d)) refl h (placed limit (with_known K d) es n e w.2)
  where
    by : (b : Bool) → bytes_eq n (entry_name d) ≡ b → cond b (Some d) (entry_of es n) ≡ Some e → (entry_of es n ≡ Some e → IsPlaced limit (with_known K d) es n e) → IsPlaced limit K (d ∷ es) n e
    by true b h next = subst (IsPlaced limit K (d ∷ es) n) (same_Some d e h) (record {
      before = [];
      after = es;
      parts = refl;
      named = (bytes_eq-Decides n (entry_name d)).0 b;
      new = w.0;
      over = w.1;
      rest = w.2;
    })
    by false b h next =
        let p = next h in
        record { before = d ∷ p.before; after = p.after; parts = ap (λ xs. d ∷ xs) p.parts; named = p.named; new = p.new; over = p.over; rest = p.rest }

-- over the entries before it the entry is well formed, and gives its name all that the catalogue has of it. What these have of the names
-- that are known there is what the catalogue has.
pub record IsRead (c : Catalogue) (n : List ℕ) (e : Entry) : Type 1 where
  pub K : KnownNames
  pub I : Meaning
  pub M : Measures
  pub R : List ℕ → List ℕ → Bool
  pub named : n ≡ entry_name e
  pub plain : is_made n ≡ false
  pub over : IsEntryOver c.limit K e
  pub own_known : known c n ≡ Some (entry_known K e)
  pub own_meaning : stored c n ≡ entry_meaning I e
  pub own_measure : stored_measures c n ≡ entry_measure M e
  pub own_reach : reaches c n ≡ entry_reaches R e
  pub kept_known : (m : List ℕ) → is_some (K m) ≡ true → known c m ≡ K m
  pub kept_meaning : (m : List ℕ) → is_some (K m) ≡ true → stored c m ≡ I m
  pub kept_measure : (m : List ℕ) → is_some (K m) ≡ true → stored_measures c m ≡ M m
  pub kept_reach : (m : List ℕ) → is_some (K m) ≡ true → reaches c m ≡ R m

pub entry_read : (c : Catalogue) → IsWellFormed c → (n : List ℕ) (e : Entry) → entry_of c.entries n ≡ Some e → IsRead c n e
entry_read c w n e h = by (placed c.limit none_known c.entries n e w h)
  where
    by : IsPlaced c.limit none_known c.entries n e → IsRead c n e
    by p = record {
      K = K;
      I = I;
      M = M;
      R = R;
      named = p.named;
      plain = ap is_made p.named ∙ p.new.1;
      over = p.over;
      own_known = known_there c p.before p.after e n p.parts own_later ∙ own_added;
      own_meaning = meaning_there c p.before p.after e n p.parts own_later ∙ means_own I e n own;
      own_measure = measure_there c p.before p.after e n p.parts own_later ∙ ap (λ c. cond c (entry_measure M e) (M n)) own;
      own_reach = reach_there c p.before p.after e n p.parts own_later ∙ reaches_own R e n own;
      kept_known = λ m k. known_there c p.before p.after e m p.parts (later m k) ∙ known_other K e m (other m k);
      kept_meaning = λ m k. meaning_there c p.before p.after e m p.parts (later m k) ∙ means_other I e m (other m k);
      kept_measure = λ m k. measure_there c p.before p.after e m p.parts (later m k) ∙ measures_other M e m (other m k);
      kept_reach = λ m k. reach_there c p.before p.after e m p.parts (later m k) ∙ reaches_other R e m (other m k);
    }
      where
        K : KnownNames
        K = known_from none_known p.before

        I : Meaning
        I = meaning_from none_means p.before

        M : Measures
        M = measures_from none_measured p.before

        R : List ℕ → List ℕ → Bool
        R = reach_from none_reached p.before

        own : bytes_eq n (entry_name e) ≡ true
        own = (bytes_eq-Decides n (entry_name e)).1 p.named

        own_added : with_known K e n ≡ Some (entry_known K e)
        own_added = ap (λ c. cond c (Some (entry_known K e)) (K n)) own

        own_later : entry_of p.after n ≡ None
        own_later = absent c.limit (with_known K e) p.after n p.rest (ap is_some own_added)

        other : (m : List ℕ) → is_some (K m) ≡ true → bytes_eq m (entry_name e) ≡ false
        other m k = not_new K m (entry_name e) p.new.0 k

        later : (m : List ℕ) → is_some (K m) ≡ true → entry_of p.after m ≡ None
        later m k = absent c.limit (with_known K e) p.after m p.rest (ap (λ c. is_some (cond c (Some (entry_known K e)) (K m))) (other m k) ∙ k)
