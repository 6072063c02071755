-- The entries stay kept where one is added, changed or dropped, and the catalogue changes as promised.
use Rattle.std.proofs.Common.{◌≡◌, ℕ, ◌≤◌, Bool, true, false, cond, List, [], ◌∷◌, ◌++◌, None, Some, is_some, refl, sym, ap, ◌∙◌, subst, true≢false, bytes_eq}
use Rattle.std.specs.List.{AllByRecursion, list_any}
use Rattle.ded_num.proofs.Tests.{from_same_texts}
use Rattle.ded_model.specs.Form.{form}
use Rattle.ded_model.specs.Known.{KnownNames, AreEntriesOver, IsEntryOver, IsWellFormed, IsNewName, entry_known, with_known, known_from, known_of}
use Rattle.ded_model.specs.Made.{is_made}
use Rattle.ded_model.specs.ShortRows.{HasShortRows}
use Rattle.ded_sorts.specs.Changes.{AddsEntry, ChangesEntry, DropsEntry}
use Rattle.ded_model.specs.Entries.{entry_uses}
use Rattle.ded_catalog.specs.declared.stored.Stored.{Stored}
use Rattle.ded_catalog.specs.declared.stored.Stored.TheVariants.{Relation, View}
use Rattle.ded_catalog.specs.State.{Table, entry_form, entry_forms, catalogue_of}
use Rattle.ded_catalog.specs.Conditions.{IsRight, AreKept, IsKept}
use Rattle.ded_catalog.proofs.Agreeing.{Agrees, level-agree, accepted-agree}
use Rattle.ded_catalog.proofs.Lookups.{named, forms-append, with_known-form, with_known-own, with_known-other}
use Rattle.ded_model.proofs.Bools.{or_false_left, or_false_right, bytes_eq-refl}

-- ---- kept entries are well formed

pub entries-kept : (limit : ℕ) (K : KnownNames) (es : List (List ℕ × Stored)) → AreKept limit K es → AreEntriesOver limit K (entry_forms es)
entries-kept limit K [] h = tt
entries-kept limit K (e ∷ es) h = ((ap K (named e.0 e.1) ∙ h.0.0, ap is_made (named e.0 e.1) ∙ h.0.1), h.1, entries-kept limit (with_known K (entry_form e.0 e.1)) es h.3)

pub formed : (t : Table) → IsKept t.limit t.names → IsWellFormed (catalogue_of t)
formed t h = entries-kept t.limit (λ n. None) t.names h.entries

-- ---- kept views have short rows

right_short : (K : KnownNames) (n : List ℕ) (s : Stored) → IsRight K s → HasShortRows (entry_form n s)
right_short K n (Relation r) h = tt
right_short K n (View v) h = (h.2, h.3)

views_short : (limit : ℕ) (K : KnownNames) (es : List (List ℕ × Stored)) → AreKept limit K es → AllByRecursion HasShortRows (entry_forms es)
views_short limit K [] h = tt
views_short limit K (e ∷ es) h = (right_short K e.0 e.1 h.2, views_short limit (with_known K (entry_form e.0 e.1)) es h.3)

pub short : (t : Table) → IsKept t.limit t.names → AllByRecursion HasShortRows (catalogue_of t).entries
short t h = views_short t.limit (λ n. None) t.names h.entries

-- ---- one more

kept-append : (limit : ℕ) (K : KnownNames) (es : List (List ℕ × Stored)) (n : List ℕ) (s : Stored) → AreKept limit K es
    → IsNewName (known_from K (entry_forms es)) n → IsEntryOver limit (known_from K (entry_forms es)) (entry_form n s) → IsRight (known_from K (entry_forms es)) s
    → AreKept limit K (es ++ (n, s) ∷ [])
kept-append limit K [] n s h new over right = (new, over, right, tt)
kept-append limit K (e ∷ es) n s h new over right = (h.0, h.1, h.2, kept-append limit (with_known K (entry_form e.0 e.1)) es n s h.3 new over right)

-- an entry at the end that has a new name, is well formed over those before it and right over them
pub kept-add : (limit : ℕ) (es : List (List ℕ × Stored)) (n : List ℕ) (s : Stored) → IsKept limit es
    → IsNewName (known_of (entry_forms es)) n → IsEntryOver limit (known_of (entry_forms es)) (entry_form n s) → IsRight (known_of (entry_forms es)) s
    → IsKept limit (es ++ (n, s) ∷ [])
unfolding known_of
kept-add limit es n s h new over right = record { low = h.low; high = h.high; entries = kept-append limit (λ m. None) es n s h.entries new over right }

-- it is added
pub adds : (t u : Table) (n : List ℕ) (s : Stored) → u.limit ≡ t.limit → u.names ≡ t.names ++ (n, s) ∷ [] → AddsEntry (catalogue_of t) (catalogue_of u) (entry_form n s)
adds t u n s l h = λ i. record { limit = l i; entries = (ap entry_forms h ∙ forms-append t.names ((n, s) ∷ [])) i }

-- ---- one changed

module _ (limit : ℕ) (n : List ℕ) (s w : Stored) (same : (K : KnownNames) → entry_known K (entry_form n s) ≡ entry_known K (entry_form n w))
    (over : (K : KnownNames) → IsEntryOver limit K (entry_form n s) → IsEntryOver limit K (entry_form n w)) (right : (K : KnownNames) → IsRight K s → IsRight K w) where
  same_known : (K : KnownNames) → with_known K (entry_form n s) ≡ with_known K (entry_form n w)
  same_known K = λ i m. (with_known-form K n s m ∙ ap (λ k. cond (bytes_eq m n) (Some k) (K m)) (same K) ∙ sym (with_known-form K n w m)) i

  kept-changed : (K : KnownNames) (before after : List (List ℕ × Stored)) → AreKept limit K (before ++ (n, s) ∷ after) → AreKept limit K (before ++ (n, w) ∷ after)
  kept-changed K [] after h = (h.0, over K h.1, right K h.2, subst (λ J. AreKept limit J after) (same_known K) h.3)
  kept-changed K (e ∷ before) after h = (h.0, h.1, h.2, kept-changed (with_known K (entry_form e.0 e.1)) before after h.3)

  -- an entry in place of another of which the same is known
  pub kept-change : (before after : List (List ℕ × Stored)) → IsKept limit (before ++ (n, s) ∷ after) → IsKept limit (before ++ (n, w) ∷ after)
  kept-change before after h = record { low = h.low; high = h.high; entries = kept-changed (λ m. None) before after h.entries }

-- it is changed
pub changes : (t u : Table) (n : List ℕ) (s w : Stored) (before after : List (List ℕ × Stored)) → u.limit ≡ t.limit
    → t.names ≡ before ++ (n, s) ∷ after → u.names ≡ before ++ (n, w) ∷ after → ChangesEntry (catalogue_of t) (catalogue_of u) n (entry_form n s) (entry_form n w)
changes t u n s w before after l h j = record {
  before = entry_forms before;
  after = entry_forms after;
  was = ap entry_forms h ∙ forms-append before ((n, s) ∷ after);
  is = λ i. record { limit = l i; entries = (ap entry_forms j ∙ forms-append before ((n, w) ∷ after)) i };
  named = named n s;
}

-- ---- one dropped

-- it is dropped
pub drops : (t u : Table) (n : List ℕ) (s : Stored) (before after : List (List ℕ × Stored)) → u.limit ≡ t.limit
    → t.names ≡ before ++ (n, s) ∷ after → u.names ≡ before ++ after → DropsEntry (catalogue_of t) (catalogue_of u) n
drops t u n s before after l h j = record {
  before = entry_forms before;
  old = entry_form n s;
  after = entry_forms after;
  was = ap entry_forms h ∙ forms-append before ((n, s) ∷ after);
  is = λ i. record { limit = l i; entries = (ap entry_forms j ∙ forms-append before after) i };
  named = named n s;
}

-- J is K without the name, of which K knows something
record Without (n : List ℕ) (K J : KnownNames) : Type 0 where
  agrees : Agrees n K J
  some : is_some (K n) ≡ true
  none : J n ≡ None

-- of an entry that doesn't use the name the same is known
known-without : (n : List ℕ) (K J : KnownNames) (k : List ℕ) (s : Stored) → Agrees n K J → entry_uses n (entry_form k s) ≡ false → entry_known K (entry_form k s) ≡ entry_known J (entry_form k s)
known-without n K J k (Relation r) g u = refl
known-without n K J k (View v) g u = λ i. record { is_view = true; columns = v.heading; level = level-agree n K J g (form v.formula) u i }

over-without : (limit : ℕ) (n : List ℕ) (K J : KnownNames) (k : List ℕ) (s : Stored) → Agrees n K J → entry_uses n (entry_form k s) ≡ false → IsEntryOver limit K (entry_form k s) → IsEntryOver limit J (entry_form k s)
over-without limit n K J k (Relation r) g u o = o
over-without limit n K J k (View v) g u o =
    (accepted-agree n K J g v.heading (form v.formula) u o.0, subst (λ l. l ≤ 16) (level-agree n K J g (form v.formula) u) o.1)

right-without : (n : List ℕ) (K J : KnownNames) (k : List ℕ) (s : Stored) → Agrees n K J → entry_uses n (entry_form k s) ≡ false → IsRight K s → IsRight J s
right-without n K J k (Relation r) g u h = h
right-without n K J k (View v) g u h = (h.0 ∙ level-agree n K J g (form v.formula) u, h.1, h.2, h.3, h.4)

-- a name that something is known of isn't one that nothing is known of
other : (n k : List ℕ) (K : KnownNames) (b : Bool) → bytes_eq n k ≡ b → is_some (K n) ≡ true → K k ≡ None → bytes_eq n k ≡ false
other n k K true e s o = absurd (true≢false (sym s ∙ ap is_some (ap K (from_same_texts n k e) ∙ o)))
other n k K false e s o = e

with-without : (n : List ℕ) (K J : KnownNames) (k : List ℕ) (s : Stored) → Without n K J → bytes_eq n k ≡ false → entry_uses n (entry_form k s) ≡ false → Without n (with_known K (entry_form k s)) (with_known J (entry_form k s))
with-without n K J k s w o u = record {
  agrees = record {
    same = λ m e.
        with_known-form K k s m
        ∙ (λ i. cond (bytes_eq m k) (Some (known-without n K J k s w.agrees u i)) (w.agrees.same m e i))
        ∙ sym (with_known-form J k s m);
  };
  some = ap is_some (with_known-other K k s n o) ∙ w.some;
  none = with_known-other J k s n o ∙ w.none;
}

kept-without : (limit : ℕ) (n : List ℕ) (K J : KnownNames) (es : List (List ℕ × Stored)) → Without n K J → AreKept limit K es → list_any (entry_uses n) (entry_forms es) ≡ false → AreKept limit J es
kept-without limit n K J [] w h u = tt
kept-without limit n K J (e ∷ es) w h u =
    let here = or_false_left _ _ u in
    let o = other n e.0 K (bytes_eq n e.0) refl w.some h.0.0 in (
      (sym (w.agrees.same e.0 o) ∙ h.0.0, h.0.1),
      over-without limit n K J e.0 e.1 w.agrees here h.1,
      right-without n K J e.0 e.1 w.agrees here h.2,
      kept-without limit n (with_known K (entry_form e.0 e.1)) (with_known J (entry_form e.0 e.1)) es (with-without n K J e.0 e.1 w o here) h.3 (or_false_right _ _ u),
    )

-- names compare alike from both sides
pub turned : (m n : List ℕ) (b : Bool) → bytes_eq m n ≡ b → bytes_eq n m ≡ false → bytes_eq m n ≡ false
turned m n true e o = absurd (true≢false (sym (bytes_eq-refl m) ∙ ap (λ x. bytes_eq x m) (from_same_texts m n e) ∙ o))
turned m n false e o = e

kept-dropped : (limit : ℕ) (n : List ℕ) (s : Stored) (K : KnownNames) (before after : List (List ℕ × Stored)) → AreKept limit K (before ++ (n, s) ∷ after)
    → list_any (entry_uses n) (entry_forms (before ++ (n, s) ∷ after)) ≡ false → AreKept limit K (before ++ after)
kept-dropped limit n s K [] after h u = kept-without limit n (with_known K (entry_form n s)) K after
    (record {
      agrees = record { same = λ m e. with_known-other K n s m (turned m n (bytes_eq m n) refl e) };
      some = ap is_some (with_known-own K n s n (bytes_eq-refl n));
      none = h.0.0;
    })
    h.3 (or_false_right _ _ u)
kept-dropped limit n s K (e ∷ before) after h u =
    (h.0, h.1, h.2, kept-dropped limit n s (with_known K (entry_form e.0 e.1)) before after h.3 (or_false_right _ _ u))

-- without an entry whose name no view uses
pub kept-drop : (limit : ℕ) (n : List ℕ) (s : Stored) (before after : List (List ℕ × Stored)) → IsKept limit (before ++ (n, s) ∷ after)
    → list_any (entry_uses n) (entry_forms (before ++ (n, s) ∷ after)) ≡ false → IsKept limit (before ++ after)
kept-drop limit n s before after h u = record { low = h.low; high = h.high; entries = kept-dropped limit n s (λ m. None) before after h.entries u }
