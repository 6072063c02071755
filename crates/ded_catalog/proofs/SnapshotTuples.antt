-- The changes of a catalogue: what they make of it, and what is read of that.
use Rattle.std.proofs.Common.{◌≡◌, ℕ, ◌+◌, ◌<◌, ◌≤◌, ◌==◌, nat_le, Bool, true, false, ◌||◌, length, List, [], ◌∷◌, ◌++◌, Option, Some, None, is_some, refl, sym, ap, ◌∙◌, subst, true≢false, bytes_eq, arith}
use Rattle.std.specs.Prelude.{if◌then◌else◌}
use Rattle.std.specs.List.{AllByRecursion, list_any}
use Rattle.std.specs.Option.{option_map}
use Rattle.std.proofs.lemmas.Bool.Decides.{nat_tests}
use Rattle.std.proofs.lemmas.List.{length-append}
use Rattle.std.proofs.lemmas.Slice.Eq.{bytes_eq-Decides}
use Rattle.ded_model.specs.declared.command.Refusal.TheVariants.{Full, Spent}
use Rattle.ded_model.specs.declared.name.Column.{Column}
use Rattle.ded_model.specs.Catalogue.{Entry, relation, view, Catalogue, entry_name, tuples_of}
use Rattle.ded_model.specs.Entries.{entry_of, stored_in, relation_in, view_in, inserts_in, tuples_in, known, columns_in}
use Rattle.ded_model.specs.Known.{KnownNames, AreStored, IsTupleOver, IsEntryOver, IsWellFormed, entry_known, known_of}
use Rattle.ded_model.specs.Row.{Atom}
use Rattle.ded_model.specs.ShortRows.{HasShortRows}
use Rattle.ded_sorts.specs.Changes.{Inserts, Deletes}
use Rattle.ded_sorts.proofs.KnownEntries.{relation_there, columns_there}
use Rattle.ded_relation.proofs.Numbers.{stored-push, stored-remove, length-remove}
use Rattle.ded_catalog.specs.Changing.{PendingChange, none, insertion, deletion, changed_under, entry_with, entry_without, without_number, with_tuple, without_tuple, changed, MayInsert, MayChange, inserted_in, deleted_in, with_last}
use Rattle.ded_catalog.proofs.SnapshotEntries.{split, over_at, known_from-changed, own_entry, other_entry, over-changed}
use Rattle.ded_catalog.proofs.Calls.{has_room}

-- ---- entries

with_named : (t : List Atom) (e : Entry) → entry_name (entry_with t e) ≡ entry_name e
with_named t (relation n h m ts) = refl
with_named t (view n h f) = refl

with_known_same : (t : List Atom) (K : KnownNames) (e : Entry) → entry_known K (entry_with t e) ≡ entry_known K e
with_known_same t K (relation n h m ts) = refl
with_known_same t K (view n h f) = refl

without_named : (k : ℕ) (e : Entry) → entry_name (entry_without k e) ≡ entry_name e
without_named k (relation n h m ts) = refl
without_named k (view n h f) = refl

without_known_same : (k : ℕ) (K : KnownNames) (e : Entry) → entry_known K (entry_without k e) ≡ entry_known K e
without_known_same k K (relation n h m ts) = refl
without_known_same k K (view n h f) = refl

-- ---- numbers

-- none of tuples of other numbers is left out
other_numbers : (h : List Column) (m j k : ℕ) (ts : List (ℕ × List Atom)) → k ≤ j → AreStored h m j ts → without_number (Some k) ts ≡ ts
other_numbers h m j k [] le s = refl
other_numbers h m j k (t ∷ ts) le s =
    ap (λ b. if b then without_number (Some k) ts else t ∷ without_number (Some k) ts) (apart t.0 s.0) ∙ ap (λ l. t ∷ l) (other_numbers h m t.0 k ts (omega (arith, le, s.0)) s.4)
  where
    apart : (a : ℕ) → j < a → (a == k) ≡ false
    apart a lt = grind (arith, nat_tests, le)

-- where the tuple of the number stands
record IsCut (ts : List (ℕ × List Atom)) (k : ℕ) : Type 0 where
  before : List (ℕ × List Atom)
  tuple : List Atom
  after : List (ℕ × List Atom)
  was : ts ≡ before ++ (k, tuple) ∷ after
  is : without_number (Some k) ts ≡ before ++ after

cut : (h : List Column) (m j k : ℕ) (ts : List (ℕ × List Atom)) → AreStored h m j ts → list_any (λ t. t.0 == k) ts ≡ true → IsCut ts k
cut h m j k [] s e = absurd (true≢false (sym e))
cut h m j k (t ∷ ts) s e = by (t.0 == k) refl (cut h m t.0 k ts s.4)
  where
    number : (a : ℕ) → (a == k) ≡ true → a ≡ k
    number a e = grind (arith, nat_tests)

    step : (b : Bool) → (t.0 == k) ≡ b → without_number (Some k) (t ∷ ts) ≡ (if b then without_number (Some k) ts else t ∷ without_number (Some k) ts)
    step b i = ap (λ c. if c then without_number (Some k) ts else t ∷ without_number (Some k) ts) i

    by : (b : Bool) → (t.0 == k) ≡ b → (list_any (λ u. u.0 == k) ts ≡ true → IsCut ts k) → IsCut (t ∷ ts) k
    by true i next =
        let same = number t.0 i in
        record { before = []; tuple = t.1; after = ts; was = λ x. (same x, t.1) ∷ ts; is = step true i ∙ other_numbers h m t.0 k ts (omega (arith, same)) s.4 }
    by false i next =
        let rest = next (sym (ap (λ b. b || list_any (λ u. u.0 == k) ts) i) ∙ e) in
        record { before = t ∷ rest.before; tuple = rest.tuple; after = rest.after; was = ap (λ l. t ∷ l) rest.was; is = step false i ∙ ap (λ l. t ∷ l) rest.is }

-- ---- relations

-- the entry of a name that has one
record IsRelation (es : List Entry) (n : List ℕ) : Type 0 where
  own : List ℕ
  columns : List Column
  inserts : ℕ
  present : List (ℕ × List Atom)
  entry : entry_of es n ≡ Some (relation own columns inserts present)

relation_found : (es : List Entry) (n : List ℕ) → is_some (relation_in (entry_of es n)) ≡ true → IsRelation es n
relation_found es n h = by (entry_of es n) refl h
  where
    by : (o : Option Entry) → entry_of es n ≡ o → is_some (relation_in o) ≡ true → IsRelation es n
    by None e h = absurd (true≢false (sym h))
    by (Some (view m k f)) e h = absurd (true≢false (sym h))
    by (Some (relation m k i ts)) e h = record { own = m; columns = k; inserts = i; present = ts; entry = e }

-- a tuple that is there is one of a relation
has_relation : (o : Option Entry) (k : ℕ) → list_any (λ t. t.0 == k) (stored_in o) ≡ true → is_some (relation_in o) ≡ true
has_relation None k h = h
has_relation (Some (relation m h i ts)) k e = refl
has_relation (Some (view m h f)) k e = e

-- the relation of its own name
own_name : (own n : List ℕ) (columns : List Column) (inserts : ℕ) (ts : List (ℕ × List Atom)) → own ≡ n → relation own columns inserts ts ≡ relation n columns inserts ts
own_name own n columns inserts ts e = λ i. relation (e i) columns inserts ts

module _ (c : Catalogue) (n : List ℕ) (w : IsWellFormed c) where
  -- ---- an insert

  module _ (t : List Atom) (may : MayInsert c n t) where
    there : IsRelation c.entries n
    there = relation_found c.entries n (relation_there c n w may.relation)

    has_columns : columns_in c n ≡ there.columns
    has_columns = columns_there c n (relation there.own there.columns there.inserts there.present) w there.entry

    room : length there.present + 1 ≤ c.limit
    room = has_room c.limit (length there.present) (if nat_le 4294967295 (inserts_in (entry_of c.entries n)) then Some Spent else None)
        (ap (λ o. if nat_le c.limit (length (stored_in o)) then Some Full else if nat_le 4294967295 (inserts_in (entry_of c.entries n)) then Some Spent else None) (sym there.entry) ∙ may.room)

    over_with : (J : KnownNames) → IsEntryOver c.limit J (relation there.own there.columns there.inserts there.present) → IsEntryOver c.limit J (entry_with t (relation there.own there.columns there.inserts there.present))
    over_with J s = (
      stored-push there.columns there.inserts 0 there.present t (omega arith) s.0 (subst (λ h. IsTupleOver h t) has_columns may.over) may.short,
      omega (arith, room, length-append there.present ((there.inserts + 1, t) ∷ [])),
    )

    pub with_formed : IsWellFormed (with_tuple c n t)
    with_formed = over-changed n (entry_with t) (with_named t) (with_known_same t) c.limit (λ m. None) c.entries (relation there.own there.columns there.inserts there.present) there.entry over_with w

    pub with_inserts : Inserts c (with_tuple c n t) n t (inserts_in (entry_of c.entries n) + 1)
    with_inserts =
        let s = split n (entry_with t) c.entries (relation there.own there.columns there.inserts there.present) there.entry in
        subst (λ k. Inserts c (with_tuple c n t) n t (k + 1)) (sym (ap inserts_in there.entry))
        (record {
          columns = there.columns;
          inserts = there.inserts;
          present = there.present;
          number = refl;
          changes = record {
            before = s.before;
            after = s.after;
            was = s.was ∙ ap (λ e. s.before ++ e ∷ s.after) (own_name there.own n there.columns there.inserts there.present s.named);
            is = λ i. record {
              limit = c.limit;
              entries = (s.is ∙ ap (λ e. s.before ++ e ∷ s.after) (own_name there.own n there.columns (there.inserts + 1) (there.present ++ (there.inserts + 1, t) ∷ []) s.named)) i;
            };
            named = refl;
          };
        })

  -- ---- a delete

  module _ (k : ℕ) (may : list_any (λ t. t.0 == k) (tuples_in c n) ≡ true) where
    from : IsRelation c.entries n
    from = relation_found c.entries n (has_relation (entry_of c.entries n) k may)

    is_stored : AreStored from.columns from.inserts 0 from.present × (length from.present ≤ c.limit)
    is_stored = (over_at n (entry_without k) c.limit (λ m. None) c.entries (relation from.own from.columns from.inserts from.present) from.entry w).1

    taken : IsCut from.present k
    taken = cut from.columns from.inserts 0 k from.present is_stored.0 (ap (λ o. list_any (λ t. t.0 == k) (stored_in o)) (sym from.entry) ∙ may)

    over_without : (J : KnownNames) → IsEntryOver c.limit J (relation from.own from.columns from.inserts from.present) → IsEntryOver c.limit J (entry_without k (relation from.own from.columns from.inserts from.present))
    over_without J s =
        subst (λ ts. AreStored from.columns from.inserts 0 ts × (length ts ≤ c.limit)) (sym taken.is) (
          stored-remove from.columns from.inserts 0 taken.before taken.after (k, taken.tuple) (subst (AreStored from.columns from.inserts 0) taken.was s.0),
          omega (arith, subst (λ ts. length ts ≤ c.limit) taken.was s.1, length-remove taken.before taken.after (k, taken.tuple)),
        )

    pub without_formed : IsWellFormed (without_tuple c n k)
    without_formed = over-changed n (entry_without k) (without_named k) (without_known_same k) c.limit (λ m. None) c.entries (relation from.own from.columns from.inserts from.present) from.entry over_without w

    pub without_deletes : Deletes c (without_tuple c n k) n k
    without_deletes =
        let s = split n (entry_without k) c.entries (relation from.own from.columns from.inserts from.present) from.entry in
        record {
          columns = from.columns;
          inserts = from.inserts;
          before = taken.before;
          tuple = taken.tuple;
          after = taken.after;
          changes = record {
            before = s.before;
            after = s.after;
            was = s.was ∙ ap (λ e. s.before ++ e ∷ s.after) (λ i. relation (s.named i) from.columns from.inserts (taken.was i));
            is = λ i. record {
              limit = c.limit;
              entries = (s.is ∙ ap (λ e. s.before ++ e ∷ s.after) (λ i. relation (s.named i) from.columns from.inserts (taken.is i))) i;
            };
            named = refl;
          };
        }

-- ---- what is read of a changed catalogue

pub changed_formed : (c : Catalogue) (x : PendingChange) → IsWellFormed c → MayChange c x → IsWellFormed (changed c x)
changed_formed c none w may = w
changed_formed c (insertion n t) w may = with_formed c n w t may
changed_formed c (deletion n k) w may = without_formed c n w k may

with_short : (t : List Atom) (e : Entry) → HasShortRows e → HasShortRows (entry_with t e)
with_short t (relation n h m ts) s = tt
with_short t (view n h f) s = s

without_short : (k : ℕ) (e : Entry) → HasShortRows e → HasShortRows (entry_without k e)
without_short k (relation n h m ts) s = tt
without_short k (view n h f) s = s

short_under : (n : List ℕ) (f : Entry → Entry) → ((e : Entry) → HasShortRows e → HasShortRows (f e)) → (es : List Entry) → AllByRecursion HasShortRows es → AllByRecursion HasShortRows (changed_under n f es)
short_under n f keeps [] s = tt
short_under n f keeps (e ∷ es) s = by (bytes_eq n (entry_name e)) (short_under n f keeps es s.1)
  where
    by : (b : Bool) → AllByRecursion HasShortRows (changed_under n f es) → AllByRecursion HasShortRows (if b then f e ∷ es else e ∷ changed_under n f es)
    by true next = (keeps e s.0, s.1)
    by false next = (s.0, next)

-- views have short rows where they had
pub changed_short : (c : Catalogue) (x : PendingChange) → AllByRecursion HasShortRows c.entries → AllByRecursion HasShortRows (changed c x).entries
changed_short c none s = s
changed_short c (insertion n t) s = short_under n (entry_with t) (with_short t) c.entries s
changed_short c (deletion n k) s = short_under n (entry_without k) (without_short k) c.entries s

-- the same is known of names
pub known-changed : (c : Catalogue) (x : PendingChange) (m : List ℕ) → known (changed c x) m ≡ known c m
unfolding known_of
known-changed c none m = refl
known-changed c (insertion n t) m = ap (λ (K : KnownNames). K m) (known_from-changed n (entry_with t) (with_named t) (with_known_same t) (λ m. None) c.entries)
known-changed c (deletion n k) m = ap (λ (K : KnownNames). K m) (known_from-changed n (entry_without k) (without_named k) (without_known_same k) (λ m. None) c.entries)

view_with : (t : List Atom) (o : Option Entry) → view_in (option_map (entry_with t) o) ≡ view_in o
view_with t None = refl
view_with t (Some (relation m h i ts)) = refl
view_with t (Some (view m h f)) = refl

view_without : (k : ℕ) (o : Option Entry) → view_in (option_map (entry_without k) o) ≡ view_in o
view_without k None = refl
view_without k (Some (relation m h i ts)) = refl
view_without k (Some (view m h f)) = refl

-- views are the same
pub view-changed : (c : Catalogue) (x : PendingChange) (m : List ℕ) → view_in (entry_of (changed c x).entries m) ≡ view_in (entry_of c.entries m)
view-changed c none m = refl
view-changed c (insertion n t) m = by (bytes_eq n m) refl
  where
    by : (b : Bool) → bytes_eq n m ≡ b → view_in (entry_of (changed_under n (entry_with t) c.entries) m) ≡ view_in (entry_of c.entries m)
    by true b = subst (λ k. view_in (entry_of (changed_under n (entry_with t) c.entries) k) ≡ view_in (entry_of c.entries k)) ((bytes_eq-Decides n m).0 b)
        (ap view_in (own_entry n (entry_with t) (with_named t) (with_known_same t) c.entries) ∙ view_with t (entry_of c.entries n))
    by false b = ap view_in (other_entry n (entry_with t) (with_named t) (with_known_same t) m b c.entries)
view-changed c (deletion n k) m = by (bytes_eq n m) refl
  where
    by : (b : Bool) → bytes_eq n m ≡ b → view_in (entry_of (changed_under n (entry_without k) c.entries) m) ≡ view_in (entry_of c.entries m)
    by true b = subst (λ j. view_in (entry_of (changed_under n (entry_without k) c.entries) j) ≡ view_in (entry_of c.entries j)) ((bytes_eq-Decides n m).0 b)
        (ap view_in (own_entry n (entry_without k) (without_named k) (without_known_same k) c.entries) ∙ view_without k (entry_of c.entries n))
    by false b = ap view_in (other_entry n (entry_without k) (without_named k) (without_known_same k) m b c.entries)

-- ---- tuples

pub tuples-push : (ts : List (ℕ × List Atom)) (t : ℕ × List Atom) → tuples_of (ts ++ t ∷ []) ≡ tuples_of ts ++ t.1 ∷ []
tuples-push [] t = refl
tuples-push (u ∷ ts) t = ap (λ l. u.1 ∷ l) (tuples-push ts t)

all_left : (ts : List (ℕ × List Atom)) → without_number None ts ≡ ts
all_left [] = refl
all_left (t ∷ ts) = ap (λ l. t ∷ l) (all_left ts)

-- what is left of the tuples, and the new one
abbrev pub read_with : Option ℕ → Option (List Atom) → Option (List (ℕ × List Atom)) → Option (List (List Atom))
read_with o t ts = option_map (λ ts. with_last (tuples_of (without_number o ts)) t) ts

read_all : (o : Option (List (ℕ × List Atom))) → read_with None None o ≡ option_map tuples_of o
read_all None = refl
read_all (Some ts) = ap (λ l. Some (tuples_of l)) (all_left ts)

read_more : (t : List Atom) (o : Option Entry) → read_with None (Some t) (relation_in o) ≡ option_map tuples_of (relation_in (option_map (entry_with t) o))
read_more t None = refl
read_more t (Some (relation m h i ts)) = ap (λ l. Some (tuples_of l ++ t ∷ [])) (all_left ts) ∙ ap Some (sym (tuples-push ts (i + 1, t)))
read_more t (Some (view m h f)) = refl

read_less : (k : ℕ) (o : Option Entry) → read_with (Some k) None (relation_in o) ≡ option_map tuples_of (relation_in (option_map (entry_without k) o))
read_less k None = refl
read_less k (Some (relation m h i ts)) = refl
read_less k (Some (view m h f)) = refl

-- the tuples of a name are those that are left, and the new one
pub tuples-changed : (c : Catalogue) (x : PendingChange) (m : List ℕ) → read_with (deleted_in x m) (inserted_in x m) (relation_in (entry_of c.entries m)) ≡ option_map tuples_of (relation_in (entry_of (changed c x).entries m))
tuples-changed c none m = read_all (relation_in (entry_of c.entries m))
tuples-changed c (insertion n t) m = by (bytes_eq n m) refl
  where
    by : (b : Bool) → bytes_eq n m ≡ b → read_with None (if bytes_eq n m then Some t else None) (relation_in (entry_of c.entries m)) ≡ option_map tuples_of (relation_in (entry_of (changed_under n (entry_with t) c.entries) m))
    by true b =
        ap (λ v. read_with None (if v then Some t else None) (relation_in (entry_of c.entries m))) b
        ∙ subst (λ j. read_with None (Some t) (relation_in (entry_of c.entries j)) ≡ option_map tuples_of (relation_in (entry_of (changed_under n (entry_with t) c.entries) j))) ((bytes_eq-Decides n m).0 b)
        (read_more t (entry_of c.entries n) ∙ ap (λ o. option_map tuples_of (relation_in o)) (sym (own_entry n (entry_with t) (with_named t) (with_known_same t) c.entries)))
    by false b =
        ap (λ v. read_with None (if v then Some t else None) (relation_in (entry_of c.entries m))) b
        ∙ read_all (relation_in (entry_of c.entries m))
        ∙ ap (λ o. option_map tuples_of (relation_in o)) (sym (other_entry n (entry_with t) (with_named t) (with_known_same t) m b c.entries))
tuples-changed c (deletion n k) m = by (bytes_eq n m) refl
  where
    by : (b : Bool) → bytes_eq n m ≡ b → read_with (if bytes_eq n m then Some k else None) None (relation_in (entry_of c.entries m)) ≡ option_map tuples_of (relation_in (entry_of (changed_under n (entry_without k) c.entries) m))
    by true b =
        ap (λ v. read_with (if v then Some k else None) None (relation_in (entry_of c.entries m))) b
        ∙ subst (λ j. read_with (Some k) None (relation_in (entry_of c.entries j)) ≡ option_map tuples_of (relation_in (entry_of (changed_under n (entry_without k) c.entries) j))) ((bytes_eq-Decides n m).0 b)
        (read_less k (entry_of c.entries n) ∙ ap (λ o. option_map tuples_of (relation_in o)) (sym (own_entry n (entry_without k) (without_named k) (without_known_same k) c.entries)))
    by false b =
        ap (λ v. read_with (if v then Some k else None) None (relation_in (entry_of c.entries m))) b
        ∙ read_all (relation_in (entry_of c.entries m))
        ∙ ap (λ o. option_map tuples_of (relation_in o)) (sym (other_entry n (entry_without k) (without_named k) (without_known_same k) m b c.entries))

-- ---- kinds

pub mapped_there : {A B : Type 0} (f : A → B) (o : Option A) → is_some (option_map f o) ≡ is_some o
mapped_there f None = refl
mapped_there f (Some x) = refl

-- a name is that of a relation where it was
pub relation-changed : (c : Catalogue) (x : PendingChange) (m : List ℕ) → is_some (relation_in (entry_of (changed c x).entries m)) ≡ is_some (relation_in (entry_of c.entries m))
relation-changed c x m =
    sym (mapped_there tuples_of (relation_in (entry_of (changed c x).entries m))) ∙ sym (ap is_some (tuples-changed c x m))
    ∙ mapped_there (λ ts. with_last (tuples_of (without_number (deleted_in x m) ts)) (inserted_in x m)) (relation_in (entry_of c.entries m))
