-- What stands under names with and without the numbers of their users, and the numbers as one entry changes.
use Rattle.std.proofs.Common.{◌≡◌, ℕ, ◌+◌, ◌-◌, ◌^◌, ◌<◌, length, take, map, Bool, true, false, cond, List, [], ◌∷◌, ◌++◌, Option, None, Some, IfSome, refl, sym, ap, ◌∙◌, subst, bytes_eq, option_map, arith}
use Rattle.std.specs.List.{AllByRecursion, IsDistinct}
use Rattle.std.specs.Map.{keys_of, lookup, lookup_entry, set_value, remove_entry}
use Rattle.std.specs.Option.{option_map_or}
use Rattle.std.proofs.lemmas.List.{take_all}
use Rattle.std.proofs.lemmas.Map.Keys.{IsDistinct-head, IsDistinct-tail}
use Rattle.lru.specs.LruCache.{LruCache, demoted, put_entries}
use Rattle.std.proofs.lemmas.Option.{none-some, same_Some}
use Rattle.ded_num.proofs.Tests.{from_same_texts}
use Rattle.ded_model.proofs.Bools.{bytes_eq-refl}
use Rattle.ded_catalog.specs.declared.entries.NameEntry.{NameEntry}
use Rattle.ded_relation.specs.declared.relation.Relation.{Relation}
use Rattle.ded_catalog.specs.declared.stored.Stored.{Stored}
use Rattle.ded_catalog.specs.declared.stored.Stored.TheVariants as stored
use Rattle.ded_catalog.specs.Changed.{ChangesRelation}
use Rattle.ded_catalog.specs.Users.{Alters, Raises, more, users_at, without_users}

-- ---- without the numbers

pub lookup-plain : (test : List ℕ → Bool) (es : List (List ℕ × NameEntry)) → lookup test (without_users es) ≡ option_map (λ e. e.stored) (lookup test es)
lookup-plain test [] = refl
lookup-plain test (e ∷ es) = by (test e.0) (lookup-plain test es)
  where
    by : (b : Bool) → lookup test (without_users es) ≡ option_map (λ x. x.stored) (lookup test es)
        → cond b (Some e.1.stored) (lookup test (without_users es)) ≡ option_map (λ x. x.stored) (cond b (Some e.1) (lookup test es))
    by true h = refl
    by false h = h

-- what is found, and that nothing is
pub found_plain : (test : List ℕ → Bool) (es : List (List ℕ × NameEntry)) (o : Option NameEntry) → o ≡ lookup test es → option_map (λ e. e.stored) o ≡ lookup test (without_users es)
found_plain test es o h = ap (option_map (λ e. e.stored)) h ∙ sym (lookup-plain test es)

pub none_plain : (test : List ℕ → Bool) (es : List (List ℕ × NameEntry)) → lookup test (without_users es) ≡ None → lookup test es ≡ None
none_plain test es h = by (lookup test es) (sym (lookup-plain test es) ∙ h)
  where
    by : (o : Option NameEntry) → option_map (λ e. e.stored) o ≡ None → o ≡ None
    by None g = refl
    by (Some e) g = absurd (none-some e.stored (sym g))

set-plain : (test : List ℕ → Bool) (es : List (List ℕ × NameEntry)) (w : NameEntry) → without_users (set_value test es w) ≡ set_value test (without_users es) w.stored
set-plain test [] w = refl
set-plain test (e ∷ es) w = by (test e.0) (set-plain test es w)
  where
    by : (b : Bool) → without_users (set_value test es w) ≡ set_value test (without_users es) w.stored
        → without_users (cond b ((e.0, w) ∷ es) (e ∷ set_value test es w)) ≡ cond b ((e.0, w.stored) ∷ without_users es) ((e.0, e.1.stored) ∷ set_value test (without_users es) w.stored)
    by true h = refl
    by false h = ap (λ l. (e.0, e.1.stored) ∷ l) h

remove-plain : (test : List ℕ → Bool) (es : List (List ℕ × NameEntry)) → without_users (remove_entry test es) ≡ remove_entry test (without_users es)
remove-plain test [] = refl
remove-plain test (e ∷ es) = by (test e.0) (remove-plain test es)
  where
    by : (b : Bool) → without_users (remove_entry test es) ≡ remove_entry test (without_users es)
        → without_users (cond b es (e ∷ remove_entry test es)) ≡ cond b (without_users es) ((e.0, e.1.stored) ∷ remove_entry test (without_users es))
    by true h = refl
    by false h = ap (λ l. (e.0, e.1.stored) ∷ l) h

-- what is left where one is taken out
pub plain_taken : (test : List ℕ → Bool) (es fs : List (List ℕ × NameEntry)) (l : List (List ℕ × Stored)) → without_users es ≡ l → fs ≡ remove_entry test es → without_users fs ≡ remove_entry test l
plain_taken test es fs l e is = ap without_users is ∙ remove-plain test es ∙ ap (remove_entry test) e

-- the names
pub names_plain : (es : List (List ℕ × NameEntry)) → map (λ e. e.0) es ≡ map (λ e. e.0) (without_users es)
names_plain [] = refl
names_plain (e ∷ es) = ap (λ l. e.0 ∷ l) (names_plain es)

pub append-plain : (es fs : List (List ℕ × NameEntry)) → without_users (es ++ fs) ≡ without_users es ++ without_users fs
append-plain [] fs = refl
append-plain (e ∷ es) fs = ap (λ l. (e.0, e.1.stored) ∷ l) (append-plain es fs)

-- what stands there already changes nothing
set-same : {X : Type 0} (test : List ℕ → Bool) (es : List (List ℕ × X)) (s : X) → lookup test es ≡ Some s → set_value test es s ≡ es
set-same test [] s h = refl
set-same test (e ∷ es) s h = by (test e.0) h (set-same test es s)
  where
    by : (b : Bool) → cond b (Some e.1) (lookup test es) ≡ Some s → (lookup test es ≡ Some s → set_value test es s ≡ es) → cond b ((e.0, s) ∷ es) (e ∷ set_value test es s) ≡ e ∷ es
    by true h next = ap (λ x. (e.0, x) ∷ es) (sym (same_Some e.1 s h))
    by false h next = ap (λ l. e ∷ l) (next h)

-- ---- of one name and of the others

-- a name that passes is no other one
pub apart : (n m : List ℕ) → bytes_eq n m ≡ false → (k : List ℕ) → bytes_eq m k ≡ true → bytes_eq n k ≡ false
apart n m h k e = ap (bytes_eq n) (sym (from_same_texts m k e)) ∙ h

set-own : (test : List ℕ → Bool) (es : List (List ℕ × NameEntry)) (e w : NameEntry) → lookup test es ≡ Some e → lookup test (set_value test es w) ≡ Some w
set-own test [] e w h = absurd (none-some e h)
set-own test (f ∷ es) e w h = by (test f.0) refl h (set-own test es e w)
  where
    by : (b : Bool) → test f.0 ≡ b → cond b (Some f.1) (lookup test es) ≡ Some e → (lookup test es ≡ Some e → lookup test (set_value test es w) ≡ Some w)
        → lookup test (cond b ((f.0, w) ∷ es) (f ∷ set_value test es w)) ≡ Some w
    by true g is next = ap (λ b. cond b (Some w) (lookup test es)) g
    by false g is next = ap (λ b. cond b (Some f.1) (lookup test (set_value test es w))) g ∙ next is

module _ (test other : List ℕ → Bool) (apart : (k : List ℕ) → test k ≡ true → other k ≡ false) where
  set-other : (es : List (List ℕ × NameEntry)) (w : NameEntry) → lookup other (set_value test es w) ≡ lookup other es
  set-other [] w = refl
  set-other (f ∷ es) w = by (test f.0) refl (set-other es w)
    where
      by : (b : Bool) → test f.0 ≡ b → lookup other (set_value test es w) ≡ lookup other es → lookup other (cond b ((f.0, w) ∷ es) (f ∷ set_value test es w)) ≡ cond (other f.0) (Some f.1) (lookup other es)
      by true g next = ap (λ c. cond c (Some w) (lookup other es)) (apart f.0 g) ∙ sym (ap (λ c. cond c (Some f.1) (lookup other es)) (apart f.0 g))
      by false g next = ap (cond (other f.0) (Some f.1)) next

  pub remove-other : (es : List (List ℕ × NameEntry)) → lookup other (remove_entry test es) ≡ lookup other es
  remove-other [] = refl
  remove-other (f ∷ es) = by (test f.0) refl (remove-other es)
    where
      by : (b : Bool) → test f.0 ≡ b → lookup other (remove_entry test es) ≡ lookup other es → lookup other (cond b es (f ∷ remove_entry test es)) ≡ cond (other f.0) (Some f.1) (lookup other es)
      by true g next = sym (ap (λ c. cond c (Some f.1) (lookup other es)) (apart f.0 g))
      by false g next = ap (cond (other f.0) (Some f.1)) next

-- what is found where one entry is another
pub lookup-set : (n m : List ℕ) (es : List (List ℕ × NameEntry)) (e w : NameEntry) → lookup (bytes_eq m) es ≡ Some e
    → lookup (bytes_eq n) (set_value (bytes_eq m) es w) ≡ cond (bytes_eq n m) (Some w) (lookup (bytes_eq n) es)
lookup-set n m es e w found = by (bytes_eq n m) refl
  where
    by : (b : Bool) → bytes_eq n m ≡ b → lookup (bytes_eq n) (set_value (bytes_eq m) es w) ≡ cond b (Some w) (lookup (bytes_eq n) es)
    by true h = ap (λ k. lookup (bytes_eq k) (set_value (bytes_eq m) es w)) (from_same_texts n m h) ∙ set-own (bytes_eq m) es e w found
    by false h = set-other (bytes_eq m) (bytes_eq n) (apart n m h) es w

-- ---- where the list has it

-- where no name passes nothing is found
pub none_among : (n : List ℕ) (es : List (List ℕ × NameEntry)) → AllByRecursion (λ k. bytes_eq n k ≡ false) (keys_of es) → lookup (bytes_eq n) es ≡ None
none_among n [] h = refl
none_among n (e ∷ es) h = ap (λ b. cond b (Some e.1) (lookup (bytes_eq n) es)) h.0 ∙ none_among n es h.1

-- a name that is taken out is there no more, as each stands once
pub taken : (n : List ℕ) (es : List (List ℕ × NameEntry)) → IsDistinct bytes_eq (keys_of es) → lookup (bytes_eq n) (remove_entry (bytes_eq n) es) ≡ None
taken n [] h = refl
taken n (e ∷ es) h = by (bytes_eq n e.0) refl (taken n es (IsDistinct-tail bytes_eq e.0 (keys_of es) h))
  where
    by : (b : Bool) → bytes_eq n e.0 ≡ b → lookup (bytes_eq n) (remove_entry (bytes_eq n) es) ≡ None → lookup (bytes_eq n) (cond b es (e ∷ remove_entry (bytes_eq n) es)) ≡ None
    by true g next = ap (λ k. lookup (bytes_eq k) es) (from_same_texts n e.0 g) ∙ none_among e.0 es (IsDistinct-head bytes_eq e.0 (keys_of es) h)
    by false g next = ap (λ b. cond b (Some e.1) (lookup (bytes_eq n) (remove_entry (bytes_eq n) es))) g ∙ next

-- nothing is taken out where nothing is found
pub untaken : (test : List ℕ → Bool) (es : List (List ℕ × NameEntry)) → lookup test es ≡ None → remove_entry test es ≡ es
untaken test [] h = refl
untaken test (e ∷ es) h = by (test e.0) h (untaken test es)
  where
    by : (b : Bool) → cond b (Some e.1) (lookup test es) ≡ None → (lookup test es ≡ None → remove_entry test es ≡ es) → cond b es (e ∷ remove_entry test es) ≡ e ∷ es
    by true g next = absurd (none-some e.1 (sym g))
    by false g next = ap (λ l. e ∷ l) (next g)

no_entry : (test : List ℕ → Bool) (es : List (List ℕ × NameEntry)) → lookup test es ≡ None → lookup_entry test es ≡ None
no_entry test [] h = refl
no_entry test (e ∷ es) h = by (test e.0) h (no_entry test es)
  where
    by : (b : Bool) → cond b (Some e.1) (lookup test es) ≡ None → (lookup test es ≡ None → lookup_entry test es ≡ None) → cond b (Some e) (lookup_entry test es) ≡ None
    by true g next = absurd (none-some e.1 (sym g))
    by false g next = next g

-- a new name that is put in front and then behind all others stands at the end
pub put_at_end : (c : LruCache (List ℕ) NameEntry) (n : List ℕ) (x : NameEntry) → c.cap ≡ 2 ^ 64 - 1 → length c.entries < 2 ^ 63 → lookup (bytes_eq n) c.entries ≡ None
    → demoted (bytes_eq n) (put_entries bytes_eq c n x) ≡ c.entries ++ (n, x) ∷ []
put_at_end c n x large few new = ap (demoted (bytes_eq n)) put ∙ last
  where
    put : put_entries bytes_eq c n x ≡ (n, x) ∷ c.entries
    put =
        ap (λ o. option_map_or (λ e. (e.0, x) ∷ remove_entry (bytes_eq n) c.entries) o ((n, x) ∷ take (c.cap - 1) c.entries)) (no_entry (bytes_eq n) c.entries new)
        ∙ ap (λ l. (n, x) ∷ l) (take_all (c.cap - 1) c.entries (omega (arith, large, few)))

    last : demoted (bytes_eq n) ((n, x) ∷ c.entries) ≡ c.entries ++ (n, x) ∷ []
    last = ap (λ b. option_map_or (λ e. cond b c.entries ((n, x) ∷ remove_entry (bytes_eq n) c.entries) ++ e ∷ []) (cond b (Some (n, x)) (lookup_entry (bytes_eq n) c.entries)) ((n, x) ∷ c.entries)) (bytes_eq-refl n)

-- ---- a number more

-- what holds of the number of a name that is found
pub users_found : (n : List ℕ) (es : List (List ℕ × NameEntry)) (e : NameEntry) (P : ℕ → Type 0) → Some e ≡ lookup (bytes_eq n) es → IfSome (users_at n es) P → P e.users
users_found n es e P found h = subst (λ o. IfSome (option_map (λ x. x.users) o) P) (sym found) h

pub one_less : (k : ℕ) → 0 < k → k ≡ k - 1 + 1
one_less k h = omega (arith, h)

same_count : (o : Option ℕ) → o ≡ option_map (more false) o
same_count None = refl
same_count (Some k) = refl

-- at a name that isn't defined nothing is changed
pub unraised : (m : List ℕ) (es : List (List ℕ × NameEntry)) → lookup (bytes_eq m) es ≡ None → Raises (λ n. bytes_eq n m) es es
unraised m es none = record { stored = refl; users = λ n. by n (bytes_eq n m) refl }
  where
    by : (n : List ℕ) (b : Bool) → bytes_eq n m ≡ b → users_at n es ≡ option_map (more b) (users_at n es)
    by n true h =
        let here : users_at n es ≡ None = ap (λ k. users_at k es) (from_same_texts n m h) ∙ ap (option_map (λ e. e.users)) none in
        here ∙ sym (ap (option_map (more true)) here)
    by n false h = same_count (users_at n es)

pub raised : (m : List ℕ) (es : List (List ℕ × NameEntry)) (e w : NameEntry) → lookup (bytes_eq m) es ≡ Some e → w.stored ≡ e.stored → w.users ≡ e.users + 1
    → Raises (λ n. bytes_eq n m) es (set_value (bytes_eq m) es w)
raised m es e w found same up = record {
  stored =
      set-plain (bytes_eq m) es w
      ∙ set-same (bytes_eq m) (without_users es) w.stored (lookup-plain (bytes_eq m) es ∙ ap (option_map (λ x. x.stored)) found ∙ ap Some (sym same));
  users = λ n. ap (option_map (λ x. x.users)) (lookup-set n m es e w found) ∙ by n (bytes_eq n m) refl;
}
  where
    by : (n : List ℕ) (b : Bool) → bytes_eq n m ≡ b → option_map (λ x. x.users) (cond b (Some w) (lookup (bytes_eq n) es)) ≡ option_map (more b) (users_at n es)
    by n true h = ap Some up ∙ sym (ap (option_map (more true)) (ap (λ k. users_at k es) (from_same_texts n m h) ∙ ap (option_map (λ x. x.users)) found))
    by n false h = same_count (users_at n es)

pub lowered : (m : List ℕ) (es : List (List ℕ × NameEntry)) (e w : NameEntry) → lookup (bytes_eq m) es ≡ Some e → w.stored ≡ e.stored → e.users ≡ w.users + 1
    → Raises (λ n. bytes_eq n m) (set_value (bytes_eq m) es w) es
lowered m es e w found same less = record {
  stored =
      sym (set-plain (bytes_eq m) es w
      ∙ set-same (bytes_eq m) (without_users es) w.stored (lookup-plain (bytes_eq m) es ∙ ap (option_map (λ x. x.stored)) found ∙ ap Some (sym same)));
  users = λ n. by n (bytes_eq n m) refl ∙ sym (ap (option_map (more (bytes_eq n m))) (ap (option_map (λ x. x.users)) (lookup-set n m es e w found)));
}
  where
    by : (n : List ℕ) (b : Bool) → bytes_eq n m ≡ b → users_at n es ≡ option_map (more b) (option_map (λ x. x.users) (cond b (Some w) (lookup (bytes_eq n) es)))
    by n true h = ap (λ k. users_at k es) (from_same_texts n m h) ∙ ap (option_map (λ x. x.users)) found ∙ ap Some less
    by n false h = same_count (users_at n es)

-- ---- another relation under a name

-- it is another relation without the numbers too
pub changes_plain : (es fs : List (List ℕ × NameEntry)) (n : List ℕ) (Fact : Relation → Relation → Type 0) → Alters es fs n Fact → ChangesRelation (without_users es) (without_users fs) n Fact
changes_plain es fs n Fact h = record {
  old = h.so.old;
  new = h.so.new;
  was = lookup-plain (bytes_eq n) es ∙ ap (option_map (λ e. e.stored)) h.was ∙ ap Some h.so.was;
  is = ap without_users h.is ∙ set-plain (bytes_eq n) es h.new ∙ ap (set_value (bytes_eq n) (without_users es)) h.so.is;
  so = h.so.so;
}

pub changes_there : (es fs : List (List ℕ × NameEntry)) (l : List (List ℕ × Stored)) (n : List ℕ) (Fact : Relation → Relation → Type 0) → without_users es ≡ l
    → Alters es fs n Fact → ChangesRelation l (without_users fs) n Fact
changes_there es fs l n Fact e h = subst (λ k. ChangesRelation k (without_users fs) n Fact) e (changes_plain es fs n Fact h)

-- a relation that stands there without the numbers stands there
pub relation_there : (es : List (List ℕ × NameEntry)) (l : List (List ℕ × Stored)) (n : List ℕ) (F : Relation → Type 0) → without_users es ≡ l
    → ChangesRelation l l n (λ r s. F r) → Alters es es n (λ r s. F r)
relation_there es l n F same h = by (lookup (bytes_eq n) es) refl
  where
    by : (o : Option NameEntry) → lookup (bytes_eq n) es ≡ o → Alters es es n (λ r s. F r)
    by None e = absurd (none-some _ (found_plain (bytes_eq n) es None (sym e) ∙ ap (lookup (bytes_eq n)) same ∙ h.was))
    by (Some x) e =
        let is : x.stored ≡ stored.Relation h.old = same_Some _ _ (found_plain (bytes_eq n) es (Some x) (sym e) ∙ ap (lookup (bytes_eq n)) same ∙ h.was) in
        record { old = x; new = x; was = e; is = sym (set-same (bytes_eq n) es x e); users = refl; so = record { old = h.old; new = h.old; was = is; is = is; so = h.so } }
