-- What the table has under a name is what the catalogue has under it.
use Rattle.std.proofs.Common.{◌≡◌, ℕ, Bool, true, false, cond, List, [], ◌∷◌, ◌++◌, map, Option, None, Some, is_some, refl, sym, ap, ◌∙◌, true≢false, bytes_eq}
use Rattle.std.specs.Prelude.{if◌then◌else◌}
use Rattle.std.specs.Option.{option_map}
use Rattle.std.specs.Map.{lookup, set_value, remove_entry}
use Rattle.std.proofs.lemmas.Option.{same_Some, none-some}
use Rattle.ded_num.proofs.Tests.{from_same_texts}
use Rattle.ded_model.specs.Catalogue.{entry_name}
use Rattle.ded_model.specs.Known.{KnownNames, entry_known, with_known, known_from, known_of}
use Rattle.ded_model.specs.Entries.{entry_of}
use Rattle.ded_relation.specs.declared.relation.Relation.{Relation}
use Rattle.ded_catalog.specs.declared.stored.Stored.{Stored}
use Rattle.ded_catalog.specs.declared.stored.Stored.TheVariants.{View}
use Rattle.ded_catalog.specs.declared.stored.Stored.TheVariants as stored
use Rattle.ded_catalog.specs.State.{entry_form, entry_forms, stored_known, known_with, relation_at}
use Rattle.ded_catalog.specs.Conditions.{IsRight, AreKept, IsKept}

-- ---- names

-- an entry has its name
pub named : (n : List ℕ) (s : Stored) → entry_name (entry_form n s) ≡ n
named n (stored.Relation r) = refl
named n (View v) = refl

-- ---- where a name stands

-- the place of a name, what another value there makes of the table, and what the table is without it
pub record Split (es : List (List ℕ × Stored)) (n : List ℕ) (s : Stored) : Type 0 where
  pub before : List (List ℕ × Stored)
  pub after : List (List ℕ × Stored)
  pub was : es ≡ before ++ (n, s) ∷ after
  pub set : (w : Stored) → set_value (bytes_eq n) es w ≡ before ++ (n, w) ∷ after
  pub removed : remove_entry (bytes_eq n) es ≡ before ++ after

-- the name stands where it is found
pub split : (n : List ℕ) (s : Stored) (es : List (List ℕ × Stored)) → lookup (bytes_eq n) es ≡ Some s → Split es n s
split n s [] h = absurd (none-some s h)
split n s (e ∷ es) h = by (bytes_eq n e.0) refl (split n s es)
  where
    by : (b : Bool) → bytes_eq n e.0 ≡ b → (lookup (bytes_eq n) es ≡ Some s → Split es n s) → Split (e ∷ es) n s
    by true b next =
        let key : e.0 ≡ n = sym (from_same_texts n e.0 b) in
        let value : e.1 ≡ s = same_Some e.1 s (sym (ap (λ c. cond c (Some e.1) (lookup (bytes_eq n) es)) b) ∙ h) in
        record {
          before = [];
          after = es;
          was = λ i. (key i, value i) ∷ es;
          set = λ w. ap (λ c. cond c ((e.0, w) ∷ es) (e ∷ set_value (bytes_eq n) es w)) b ∙ ap (λ k. (k, w) ∷ es) key;
          removed = ap (λ c. cond c es (e ∷ remove_entry (bytes_eq n) es)) b;
        }
    by false b next =
        let rest = next (sym (ap (λ c. cond c (Some e.1) (lookup (bytes_eq n) es)) b) ∙ h) in
        record {
          before = e ∷ rest.before;
          after = rest.after;
          was = ap (λ l. e ∷ l) rest.was;
          set = λ w. ap (λ c. cond c ((e.0, w) ∷ es) (e ∷ set_value (bytes_eq n) es w)) b ∙ ap (λ l. e ∷ l) (rest.set w);
          removed = ap (λ c. cond c es (e ∷ remove_entry (bytes_eq n) es)) b ∙ ap (λ l. e ∷ l) rest.removed;
        }

-- what another value makes of a name that is there
found_set : (n : List ℕ) (es : List (List ℕ × Stored)) (s w : Stored) → lookup (bytes_eq n) es ≡ Some s → lookup (bytes_eq n) (set_value (bytes_eq n) es w) ≡ Some w
found_set n [] s w h = absurd (none-some s h)
found_set n (e ∷ es) s w h = by (bytes_eq n e.0) refl (found_set n es s w)
  where
    by : (b : Bool) → bytes_eq n e.0 ≡ b → (lookup (bytes_eq n) es ≡ Some s → lookup (bytes_eq n) (set_value (bytes_eq n) es w) ≡ Some w) → lookup (bytes_eq n) (set_value (bytes_eq n) (e ∷ es) w) ≡ Some w
    by true b next = ap (λ c. lookup (bytes_eq n) (cond c ((e.0, w) ∷ es) (e ∷ set_value (bytes_eq n) es w))) b ∙ ap (λ c. cond c (Some w) (lookup (bytes_eq n) es)) b
    by false b next =
        ap (λ c. lookup (bytes_eq n) (cond c ((e.0, w) ∷ es) (e ∷ set_value (bytes_eq n) es w))) b
        ∙ ap (λ c. cond c (Some e.1) (lookup (bytes_eq n) (set_value (bytes_eq n) es w))) b
        ∙ next (sym (ap (λ c. cond c (Some e.1) (lookup (bytes_eq n) es)) b) ∙ h)

-- the relation that is found after a change is the other one
pub relation_changed : (n : List ℕ) (es fs : List (List ℕ × Stored)) (old new r : Relation) → lookup (bytes_eq n) es ≡ Some (stored.Relation old) → fs ≡ set_value (bytes_eq n) es (stored.Relation new)
    → relation_at (lookup (bytes_eq n) fs) ≡ Some r → new ≡ r
relation_changed n es fs old new r was is h = same_Some new r (sym (ap (λ l. relation_at (lookup (bytes_eq n) l)) is ∙ ap relation_at (found_set n es (stored.Relation old) (stored.Relation new) was)) ∙ h)

-- ---- entries

-- the entries of a table in two parts
pub forms-append : (xs ys : List (List ℕ × Stored)) → entry_forms (xs ++ ys) ≡ entry_forms xs ++ entry_forms ys
forms-append [] ys = refl
forms-append (x ∷ xs) ys = ap (λ l. entry_form x.0 x.1 ∷ l) (forms-append xs ys)

-- the entry of a name is what the table has under it
pub entry_of-lookup : (n : List ℕ) (es : List (List ℕ × Stored)) → entry_of (entry_forms es) n ≡ option_map (entry_form n) (lookup (bytes_eq n) es)
entry_of-lookup n [] = refl
entry_of-lookup n (e ∷ es) =
    ap (λ k. if bytes_eq n k then Some (entry_form e.0 e.1) else entry_of (entry_forms es) n) (named e.0 e.1) ∙ by (bytes_eq n e.0) refl (entry_of-lookup n es)
  where
    by : (b : Bool) → bytes_eq n e.0 ≡ b → entry_of (entry_forms es) n ≡ option_map (entry_form n) (lookup (bytes_eq n) es) → (if bytes_eq n e.0 then Some (entry_form e.0 e.1) else entry_of (entry_forms es) n) ≡ option_map (entry_form n) (cond (bytes_eq n e.0) (Some e.1) (lookup (bytes_eq n) es))
    by true b next =
        ap (λ c. if c then Some (entry_form e.0 e.1) else entry_of (entry_forms es) n) b
        ∙ ap (λ k. Some (entry_form k e.1)) (sym (from_same_texts n e.0 b))
        ∙ sym (ap (λ c. option_map (entry_form n) (cond c (Some e.1) (lookup (bytes_eq n) es))) b)
    by false b next =
        ap (λ c. if c then Some (entry_form e.0 e.1) else entry_of (entry_forms es) n) b
        ∙ next
        ∙ sym (ap (λ c. option_map (entry_form n) (cond c (Some e.1) (lookup (bytes_eq n) es))) b)

-- the names of the entries
pub names-forms : (es : List (List ℕ × Stored)) → map (λ e. e.0) es ≡ map entry_name (entry_forms es)
names-forms [] = refl
names-forms (e ∷ es) = λ i. sym (named e.0 e.1) i ∷ names-forms es i

-- ---- what is known

-- it is what is known of the entry
pub entry_known-stored : (K : KnownNames) (n : List ℕ) (s : Stored) → IsRight K s → entry_known K (entry_form n s) ≡ stored_known s
entry_known-stored K n (stored.Relation r) h = refl
entry_known-stored K n (View v) h = λ i. record { is_view = true; columns = v.heading; level = sym h.0 i }

-- with one entry more
pub with_known-form : (K : KnownNames) (k : List ℕ) (s : Stored) (m : List ℕ) → with_known K (entry_form k s) m ≡ cond (bytes_eq m k) (Some (entry_known K (entry_form k s))) (K m)
with_known-form K k s m = ap (λ x. cond (bytes_eq m x) (Some (entry_known K (entry_form k s))) (K m)) (named k s)

-- of its bytes_eq-refl name
pub with_known-own : (K : KnownNames) (k : List ℕ) (s : Stored) (m : List ℕ) → bytes_eq m k ≡ true → with_known K (entry_form k s) m ≡ Some (entry_known K (entry_form k s))
with_known-own K k s m b = with_known-form K k s m ∙ ap (λ c. cond c (Some (entry_known K (entry_form k s))) (K m)) b

-- of another name
pub with_known-other : (K : KnownNames) (k : List ℕ) (s : Stored) (m : List ℕ) → bytes_eq m k ≡ false → with_known K (entry_form k s) m ≡ K m
with_known-other K k s m b = with_known-form K k s m ∙ ap (λ c. cond c (Some (entry_known K (entry_form k s))) (K m)) b

-- a name of which something is known isn't one of a later entry
pub absent : (limit : ℕ) (K : KnownNames) (es : List (List ℕ × Stored)) (n : List ℕ) → AreKept limit K es → is_some (K n) ≡ true → lookup (bytes_eq n) es ≡ None
absent limit K [] n h k = refl
absent limit K (e ∷ es) n h k = by (bytes_eq n e.0) refl (absent limit (with_known K (entry_form e.0 e.1)) es n h.3)
  where
    by : (b : Bool) → bytes_eq n e.0 ≡ b → (is_some (with_known K (entry_form e.0 e.1) n) ≡ true → lookup (bytes_eq n) es ≡ None) → cond (bytes_eq n e.0) (Some e.1) (lookup (bytes_eq n) es) ≡ None
    by true b next = absurd (true≢false (sym k ∙ ap is_some (ap K (from_same_texts n e.0 b) ∙ h.0.0)))
    by false b next =
        ap (λ c. cond c (Some e.1) (lookup (bytes_eq n) es)) b
        ∙ next (ap is_some (with_known-other K e.0 e.1 n b) ∙ k)

-- what is known of a name is what is known of what the table has under it
pub known_from-lookup : (limit : ℕ) (K : KnownNames) (es : List (List ℕ × Stored)) (n : List ℕ) → AreKept limit K es → known_from K (entry_forms es) n ≡ known_with (lookup (bytes_eq n) es) (K n)
known_from-lookup limit K [] n h = refl
known_from-lookup limit K (e ∷ es) n h = known_from-lookup limit J es n h.3 ∙ by (bytes_eq n e.0) refl
  where
    J : KnownNames
    J = with_known K (entry_form e.0 e.1)

    by : (b : Bool) → bytes_eq n e.0 ≡ b → known_with (lookup (bytes_eq n) es) (J n) ≡ known_with (cond (bytes_eq n e.0) (Some e.1) (lookup (bytes_eq n) es)) (K n)
    by true b =
        let here : J n ≡ Some (stored_known e.1) = with_known-own K e.0 e.1 n b ∙ ap Some (entry_known-stored K e.0 e.1 h.2) in
        ap (λ o. known_with o (J n)) (absent limit J es n h.3 (ap is_some here))
        ∙ here
        ∙ sym (ap (λ c. known_with (cond c (Some e.1) (lookup (bytes_eq n) es)) (K n)) b)
    by false b =
        ap (known_with (lookup (bytes_eq n) es)) (with_known-other K e.0 e.1 n b)
        ∙ sym (ap (λ c. known_with (cond c (Some e.1) (lookup (bytes_eq n) es)) (K n)) b)

pub known_of-lookup : (limit : ℕ) (es : List (List ℕ × Stored)) (n : List ℕ) → IsKept limit es → known_of (entry_forms es) n ≡ known_with (lookup (bytes_eq n) es) None
unfolding known_of
known_of-lookup limit es n h = known_from-lookup limit (λ m. None) es n h.entries

-- a name of which nothing is known isn't in the table
pub absent_unknown : (o : Option Stored) → known_with o None ≡ None → o ≡ None
absent_unknown None h = refl
absent_unknown (Some s) h = absurd (none-some (stored_known s) (sym h))

-- one of which something is known is
pub present_known : (o : Option Stored) → is_some (known_with o None) ≡ true → is_some o ≡ true
present_known None h = h
present_known (Some s) h = refl
