-- Changes that keep a catalogue well formed.
use Rattle.std.proofs.Common.{◌≡◌, ◌≤◌, ℕ, Bool, true, false, cond, List, [], ◌∷◌, ◌++◌, length, Some, None, is_some, refl, sym, ap, ◌∙◌, subst, true≢false, bytes_eq}
use Rattle.std.specs.List.{list_any}
use Rattle.std.proofs.lemmas.Bool.{false_from_ne_true}
use Rattle.std.proofs.lemmas.Slice.Eq.{bytes_eq-Decides}
use Rattle.ded_model.specs.declared.name.Column.{Column}
use Rattle.ded_model.specs.Catalogue.{Entry, relation, view, entry_name}
use Rattle.ded_model.specs.Entries.{entry_uses}
use Rattle.ded_model.specs.Form.{Form, speaks_of}
use Rattle.ded_model.specs.Known.{KnownNames, AreStored, IsEntryOver, IsNewName, AreEntriesOver, entry_known, with_known, known_from}
use Rattle.ded_model.specs.Row.{Atom}
use Rattle.ded_model.proofs.Bools.{or_false_left, or_false_right, bytes_eq-refl}
use Rattle.ded_views.proofs.Placing.{known_other}
use Rattle.ded_session.proofs.KnownAlike.{level_alike, accepted_alike}

module _ (limit : ℕ) where
  -- ---- an entry more

  pub over_more : (K : KnownNames) (es : List Entry) (e : Entry) → AreEntriesOver limit K es → IsNewName (known_from K es) (entry_name e) → IsEntryOver limit (known_from K es) e
      → AreEntriesOver limit K (es ++ e ∷ [])
  over_more K [] e w new o = (new, o, tt)
  over_more K (d ∷ es) e w new o = (w.0, w.1, over_more (with_known K d) es e w.2 new o)

  -- ---- a relation with other tuples

  pub over_changed : (K : KnownNames) (before after : List Entry) (n : List ℕ) (h : List Column) (i j : ℕ) (ts us : List (ℕ × List Atom))
      → (AreStored h i 0 ts → length ts ≤ limit → AreStored h j 0 us × (length us ≤ limit)) → AreEntriesOver limit K (before ++ relation n h i ts ∷ after) → AreEntriesOver limit K (before ++ relation n h j us ∷ after)
  over_changed K [] after n h i j ts us step w = (w.0, step w.1.0 w.1.1, w.2)
  over_changed K (d ∷ before) after n h i j ts us step w = (w.0, w.1, over_changed (with_known K d) before after n h i j ts us step w.2)

  -- ---- an entry less

  module _ (n : List ℕ) where
    -- of each other name both know the same
    abbrev KnowOthers : KnownNames → KnownNames → Type 0
    KnowOthers K J = (m : List ℕ) → bytes_eq m n ≡ false → J m ≡ K m

    -- a formula that doesn't speak of the name speaks of others
    others : (f : Form) → speaks_of n f ≡ false → (m : List ℕ) → speaks_of m f ≡ true → bytes_eq m n ≡ false
    others f h m u = false_from_ne_true (bytes_eq m n) (λ e. true≢false (sym (subst (λ k. speaks_of k f ≡ true) ((bytes_eq-Decides m n).0 e) u) ∙ h))

    known_alike : (K J : KnownNames) (e : Entry) → KnowOthers K J → entry_uses n e ≡ false → entry_known J e ≡ entry_known K e
    known_alike K J (relation m h i ts) same u = refl
    known_alike K J (view m h f) same u =
        ap (λ l. record { is_view = true; columns = h; level = l }) (level_alike K J f (λ k s. same k (others f u k s)))

    over_alike : (K J : KnownNames) (e : Entry) → KnowOthers K J → entry_uses n e ≡ false → IsEntryOver limit K e → IsEntryOver limit J e
    over_alike K J (relation m h i ts) same u o = o
    over_alike K J (view m h f) same u o =
        let alike = λ (k : List ℕ) (s : speaks_of k f ≡ true). same k (others f u k s) in
        (accepted_alike K J f alike h o.0, subst (λ l. l ≤ 16) (sym (level_alike K J f alike)) o.1)

    -- a new name is another one
    new_other : (K : KnownNames) (m : List ℕ) → is_some (K n) ≡ true → K m ≡ None → bytes_eq m n ≡ false
    new_other K m k new = false_from_ne_true (bytes_eq m n) (λ e. true≢false (sym k ∙ ap is_some (ap K (sym ((bytes_eq-Decides m n).0 e)) ∙ new)))

    with_alike : (K J : KnownNames) (e : Entry) → KnowOthers K J → entry_uses n e ≡ false → KnowOthers (with_known K e) (with_known J e)
    with_alike K J e same u m o = by (bytes_eq m (entry_name e))
      where
        by : (b : Bool) → cond b (Some (entry_known J e)) (J m) ≡ cond b (Some (entry_known K e)) (K m)
        by true = ap Some (known_alike K J e same u)
        by false = same m o

    still_known : (K : KnownNames) (e : Entry) → is_some (K n) ≡ true → is_some (with_known K e n) ≡ true
    still_known K e k = by (bytes_eq n (entry_name e))
      where
        by : (b : Bool) → is_some (cond b (Some (entry_known K e)) (K n)) ≡ true
        by true = refl
        by false = k

    over_without : (K J : KnownNames) (es : List Entry) → is_some (K n) ≡ true → KnowOthers K J → list_any (entry_uses n) es ≡ false → AreEntriesOver limit K es → AreEntriesOver limit J es
    over_without K J [] k same u w = tt
    over_without K J (e ∷ es) k same u w =
        let own = or_false_left (entry_uses n e) _ u in (
          (same (entry_name e) (new_other K (entry_name e) k w.0.0) ∙ w.0.0, w.0.1),
          over_alike K J e same own w.1,
          over_without (with_known K e) (with_known J e) es (still_known K e k) (with_alike K J e same own) (or_false_right (entry_uses n e) _ u) w.2,
        )

    pub over_dropped : (K : KnownNames) (before after : List Entry) (e : Entry) → entry_name e ≡ n → list_any (entry_uses n) (before ++ e ∷ after) ≡ false → AreEntriesOver limit K (before ++ e ∷ after)
        → AreEntriesOver limit K (before ++ after)
    over_dropped K [] after e named u w =
        over_without (with_known K e) K after (ap (λ b. is_some (cond b (Some (entry_known K e)) (K n))) (ap (bytes_eq n) named ∙ bytes_eq-refl n))
        (λ m o. sym (known_other K e m (ap (bytes_eq m) named ∙ o))) (or_false_right (entry_uses n e) _ u) w.2
    over_dropped K (d ∷ before) after e named u w = (w.0, w.1, over_dropped (with_known K d) before after e named (or_false_right (entry_uses n d) _ u) w.2)
