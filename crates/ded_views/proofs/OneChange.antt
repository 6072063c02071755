-- A change of one entry makes one catalogue of another.
--
-- Names are distinct in a well formed catalogue, and the numbers of the tuples in a relation, so an entry and a tuple part their lists in one way.
use Rattle.std.proofs.Common.{◌≡◌, ℕ, ◌+◌, ◌<◌, arith, Bool, true, false, ◌||◌, ◌==◌, List, [], ◌∷◌, ◌++◌, Some, refl, sym, ap, ap₂, ◌∙◌, subst, true≢false, bytes_eq}
use Rattle.std.specs.List.{list_any}
use Rattle.std.proofs.lemmas.Bool.Decides.{nat_tests}
use Rattle.ded_model.specs.declared.name.Column.{Column}
use Rattle.ded_model.specs.Row.{Atom}
use Rattle.ded_model.specs.Catalogue.{Entry, relation, Catalogue, entry_name, entry_columns}
use Rattle.ded_model.specs.Entries.{stored_in, inserts_in}
use Rattle.ded_model.specs.Known.{KnownNames, AreStored, AreEntriesOver, IsWellFormed, with_known}
use Rattle.ded_sorts.specs.Changes.{ChangesEntry, Inserts, Deletes}
use Rattle.ded_views.proofs.Placing.{none_known}
use Rattle.ded_views.proofs.Changing.{none_before}
use Rattle.ded_model.proofs.Bools.{or_false_left, or_false_right, bytes_eq-refl}

-- ---- parts

-- an element that passes a test, behind others that fail it, parts a list in one way
record AreSameParts {A : Type 0} (before before' after after' : List A) (x x' : A) : Type 0 where
  front : before ≡ before'
  here : x ≡ x'
  back : after ≡ after'

module _ {A : Type 0} (test : A → Bool) where
  same_parts : (before before' after after' : List A) (x x' : A) → list_any test before ≡ false → list_any test before' ≡ false → test x ≡ true → test x' ≡ true
      → before ++ x ∷ after ≡ before' ++ x' ∷ after' → AreSameParts before before' after after' x x'
  same_parts [] [] after after' x x' f f' t t' e = record { front = refl; here = cc; back = cc }
  same_parts [] (y ∷ before') after after' x x' f f' t t' e =
      let same : x ≡ y = cc in absurd (true≢false (sym t ∙ ap test same ∙ or_false_left _ _ f'))
  same_parts (y ∷ before) [] after after' x x' f f' t t' e =
      let same : y ≡ x' = cc in absurd (true≢false (sym t' ∙ ap test (sym same) ∙ or_false_left _ _ f))
  same_parts (y ∷ before) (z ∷ before') after after' x x' f f' t t' e =
      let first : y ≡ z = cc in
      let rest = same_parts before before' after after' x x' (or_false_right (test y) _ f) (or_false_right (test z) _ f') t t' cc in
      record { front = ap₂ (◌∷◌) first rest.front; here = rest.here; back = rest.back }

-- ---- changes

-- two changes of the entry of one name
same_entries : (c d e : Catalogue) (n : List ℕ) (old new old' new' : Entry) → IsWellFormed c → (x : ChangesEntry c d n old new) → (y : ChangesEntry c e n old' new')
    → AreSameParts x.before y.before x.after y.after old old'
same_entries c d e n old new old' new' w x y =
    same_parts (λ z. bytes_eq n (entry_name z)) x.before y.before x.after y.after old old' (none x.before x.after old x.was x.named) (none y.before y.after old' y.was y.named)
    (ap (bytes_eq n) x.named ∙ bytes_eq-refl n) (ap (bytes_eq n) y.named ∙ bytes_eq-refl n) (sym x.was ∙ y.was)
  where
    none : (before after : List Entry) (o : Entry) → c.entries ≡ before ++ o ∷ after → entry_name o ≡ n → list_any (λ z. bytes_eq n (entry_name z)) before ≡ false
    none before after o p named =
        subst (λ m. list_any (λ z. bytes_eq m (entry_name z)) before ≡ false) named
        (none_before c.limit none_known before after o (subst (AreEntriesOver c.limit none_known) p w))

pub one_insert : (c d e : Catalogue) (n : List ℕ) (t : List Atom) (k l : ℕ) → IsWellFormed c → Inserts c d n t k → Inserts c e n t l → (d ≡ e) × (k ≡ l)
one_insert c d e n t k l w x y =
    let same = same_entries c d e n _ _ _ _ w x.changes y.changes in
    let number : k ≡ l = x.number ∙ ap (λ o. inserts_in (Some o) + 1) same.here ∙ sym y.number in
    let columns = ap entry_columns same.here in
    let present = ap (λ o. stored_in (Some o)) same.here in
    (x.changes.is ∙ (λ i. record c { entries = same.front i ++ relation n (columns i) (number i) (present i ++ (number i, t) ∷ []) ∷ same.back i }) ∙ sym y.changes.is, number)

-- stored tuples before one have other numbers
others_before : (h : List Column) (i m : ℕ) (before after : List (ℕ × List Atom)) (k : ℕ) (t : List Atom) → AreStored h i m (before ++ (k, t) ∷ after)
    → (m < k) × (list_any (λ x. k == x.0) before ≡ false)
others_before h i m [] after k t s = (s.0, refl)
others_before h i m (x ∷ before) after k t s =
    let rest = others_before h i x.0 before after k t s.4 in
    (above m x.0 k s.0 rest.0, ap₂ (◌||◌) (differs x.0 rest.0) rest.1)
  where
    above : (a b d : ℕ) → a < b → b < d → a < d
    above a b d p q = omega arith

    differs : (j : ℕ) → j < k → (k == j) ≡ false
    differs j p = grind (arith, nat_tests)

pub one_delete : (c d e : Catalogue) (n : List ℕ) (k : ℕ) → IsWellFormed c → Deletes c d n k → Deletes c e n k → d ≡ e
one_delete c d e n k w x y =
    let same = same_entries c d e n _ _ _ _ w x.changes y.changes in
    let tuples = same_parts (λ z. k == z.0) x.before y.before x.after y.after (k, x.tuple) (k, y.tuple)
    (none x.columns x.inserts x.before x.after x.tuple (stored x.changes.before x.changes.after x.columns x.inserts _ x.changes.was))
    (none y.columns y.inserts y.before y.after y.tuple (stored y.changes.before y.changes.after y.columns y.inserts _ y.changes.was)) (itself k) (itself k)
    (ap (λ o. stored_in (Some o)) same.here) in
    let columns = ap entry_columns same.here in
    let inserts = ap (λ o. inserts_in (Some o)) same.here in
    x.changes.is ∙ (λ i. record c { entries = same.front i ++ relation n (columns i) (inserts i) (tuples.front i ++ tuples.back i) ∷ same.back i }) ∙ sym y.changes.is
  where
    none : (h : List Column) (i : ℕ) (before after : List (ℕ × List Atom)) (t : List Atom) → AreStored h i 0 (before ++ (k, t) ∷ after) → list_any (λ z. k == z.0) before ≡ false
    none h i before after t s = (others_before h i 0 before after k t s).1

    itself : (j : ℕ) → (j == j) ≡ true
    itself j = grind (arith, nat_tests)

    stored_at : (limit : ℕ) (K : KnownNames) (before after : List Entry) (h : List Column) (i : ℕ) (ts : List (ℕ × List Atom)) → AreEntriesOver limit K (before ++ relation n h i ts ∷ after) → AreStored h i 0 ts
    stored_at limit K [] after h i ts v = v.1.0
    stored_at limit K (b ∷ before) after h i ts v = stored_at limit (with_known K b) before after h i ts v.2

    stored : (before after : List Entry) (h : List Column) (i : ℕ) (ts : List (ℕ × List Atom)) → c.entries ≡ before ++ relation n h i ts ∷ after → AreStored h i 0 ts
    stored before after h i ts p = stored_at c.limit none_known before after h i ts (subst (AreEntriesOver c.limit none_known) p w)
