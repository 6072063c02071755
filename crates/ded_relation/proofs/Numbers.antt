-- The numbers of a relation's tuples ascend up to its count of inserts, and stay so after an insert and a delete.
use Rattle.std.proofs.Common.{◌≡◌, ℕ, ◌+◌, ◌<◌, ◌≤◌, ◌==◌, Bool, true, false, cond, List, [], ◌∷◌, ◌++◌, length, Some, is_some, ◌||◌, refl, sym, ap, ◌∙◌, subst, true≢false, arith}
use Rattle.std.specs.BTreeMap.{insert_entry, is_at}
use Rattle.std.specs.List.{AllByRecursion, list_any}
use Rattle.std.specs.List.Sorted.{IsStrictlySortedBy}
use Rattle.std.specs.Map.{keys_of, lookup, remove_entry}
use Rattle.std.specs.Ordering.{nat_cmp, match_ordering}
use Rattle.std.specs.declared.cmp.Ordering.TheVariants.{Less, Greater}
use Rattle.std.proofs.lemmas.Bool.Decides.{nat_tests}
use Rattle.ded_model.specs.declared.name.Column.{Column}
use Rattle.ded_model.specs.Known.{AreStored, IsTupleOver}
use Rattle.ded_model.specs.Row.{Atom}
use Rattle.ded_model.specs.Width.{tuple_length}
use Rattle.ded_relation.specs.declared.relation.Relation.{Relation}
use Rattle.ded_relation.specs.Tuples.{AreUpTo, Removes}

-- from above a lower number
pub stored-lower : (h : List Column) (m k j : ℕ) (ts : List (ℕ × List Atom)) → j ≤ k → AreStored h m k ts → AreStored h m j ts
stored-lower h m k j [] le s = tt
stored-lower h m k j (t ∷ ts) le s = (omega (arith, s.0, le), s.1, s.2, s.3, s.4)

-- with a number above all at the end
pub stored-push : (h : List Column) (m k : ℕ) (ts : List (ℕ × List Atom)) (t : List Atom) → k ≤ m → AreStored h m k ts → IsTupleOver h t → tuple_length t ≤ 63 → AreStored h (m + 1) k (ts ++ (m + 1, t) ∷ [])
stored-push h m k [] t le s o l = (omega (arith, le), omega arith, o, l, tt)
stored-push h m k (x ∷ xs) t le s o l = (s.0, omega (arith, s.1), s.2, s.3, stored-push h m x.0 xs t s.1 s.4 o l)

-- without one
pub stored-remove : (h : List Column) (m k : ℕ) (b a : List (ℕ × List Atom)) (x : ℕ × List Atom) → AreStored h m k (b ++ x ∷ a) → AreStored h m k (b ++ a)
stored-remove h m k [] a x s = stored-lower h m x.0 k a (omega (arith, s.0)) s.4
stored-remove h m k (y ∷ b) a x s = (s.0, s.1, s.2, s.3, stored-remove h m y.0 b a x s.4)

-- how many are left
pub length-remove : (b a : List (ℕ × List Atom)) (x : ℕ × List Atom) → length (b ++ a) ≤ length (b ++ x ∷ a)
length-remove [] a x = omega arith
length-remove (y ∷ b) a x = omega (arith, length-remove b a x)

-- none is above the count of inserts
pub stored-upto : (h : List Column) (m k : ℕ) (ts : List (ℕ × List Atom)) → AreStored h m k ts → AreUpTo m ts
stored-upto h m k [] s = tt
stored-upto h m k (t ∷ ts) s = (s.1, stored-upto h m t.0 ts s.4)

-- ---- finding a number

-- a key compares as the number where it is the number
pub key_test : (k a : ℕ) → is_at (nat_cmp k) a ≡ (a == k)
key_test k a = grind (arith, nat_tests)

-- a key is found where a tuple has the number
pub found_numbered : (k : ℕ) (ts : List (ℕ × List Atom)) → is_some (lookup (is_at (nat_cmp k)) ts) ≡ list_any (λ t. t.0 == k) ts
found_numbered k [] = refl
found_numbered k (t ∷ ts) = by (is_at (nat_cmp k) t.0) ∙ (λ i. key_test k t.0 i || found_numbered k ts i)
  where
    by : (b : Bool) → is_some (cond b (Some t.1) (lookup (is_at (nat_cmp k)) ts)) ≡ (b || is_some (lookup (is_at (nat_cmp k)) ts))
    by true = refl
    by false = refl

-- no tuple has a number above all
pub above_none : (m k : ℕ) (ts : List (ℕ × List Atom)) → m < k → AreUpTo m ts → list_any (λ t. t.0 == k) ts ≡ false
above_none m k [] lt up = refl
above_none m k (t ∷ ts) lt up = λ i. apart t.0 up.0 i || above_none m k ts lt up.1 i
  where
    apart : (a : ℕ) → a ≤ m → (a == k) ≡ false
    apart a le = grind (arith, nat_tests)

-- ---- putting one at the end

-- behind a key that is below
put_behind : (k : ℕ) (x : List Atom) (t : ℕ × List Atom) (ts us : List (ℕ × List Atom)) → nat_cmp k t.0 ≡ Greater → insert_entry nat_cmp ts k x ≡ us → insert_entry nat_cmp (t ∷ ts) k x ≡ t ∷ us
put_behind k x t ts us above next = ap (λ o. match_ordering o ((k, x) ∷ t ∷ ts) ((t.0, x) ∷ ts) (t ∷ insert_entry nat_cmp ts k x)) above ∙ ap (λ l. t ∷ l) next

above : (a k : ℕ) → a < k → nat_cmp k a ≡ Greater
above a k lt = grind (arith, nat_tests)

-- a number above all goes to the end
pub put_last : (m k : ℕ) (x : List Atom) (ts : List (ℕ × List Atom)) → m < k → AreUpTo m ts → insert_entry nat_cmp ts k x ≡ ts ++ (k, x) ∷ []
put_last m k x [] lt up = refl
put_last m k x (t ∷ ts) lt up = put_behind k x t ts _ (above t.0 k (omega (arith, up.0, lt))) (put_last m k x ts lt up.1)

below_next : (a k : ℕ) (x : List Atom) (ts rest : List (ℕ × List Atom)) → AllByRecursion (λ b. nat_cmp a b ≡ Less) (keys_of (ts ++ (k, x) ∷ rest)) → nat_cmp a k ≡ Less
below_next a k x [] rest h = h.0
below_next a k x (t ∷ ts) rest h = below_next a k x ts rest h.1

-- so does the next one of numbers that ascend
pub put_next : (k : ℕ) (x : List Atom) (ts rest : List (ℕ × List Atom)) → IsStrictlySortedBy nat_cmp (keys_of (ts ++ (k, x) ∷ rest)) → insert_entry nat_cmp ts k x ≡ ts ++ (k, x) ∷ []
unfolding IsStrictlySortedBy
put_next k x [] rest up = refl
put_next k x (t ∷ ts) rest up = put_behind k x t ts _ (turned t.0 (below_next t.0 k x ts rest up.0)) (put_next k x ts rest up.1)
  where
    turned : (a : ℕ) → nat_cmp a k ≡ Less → nat_cmp k a ≡ Greater
    turned a h = grind (arith, nat_tests)

joined : (ts : List (ℕ × List Atom)) (t : ℕ × List Atom) (rest : List (ℕ × List Atom)) → (ts ++ t ∷ []) ++ rest ≡ ts ++ t ∷ rest
joined [] t rest = refl
joined (u ∷ ts) t rest = ap (λ l. u ∷ l) (joined ts t rest)

-- one more of the tuples to be copied is in the copy
pub copied_next : (ts copies new left rest : List (ℕ × List Atom)) (k : ℕ) (x y : List Atom) → IsStrictlySortedBy nat_cmp (keys_of ts) → copies ++ left ≡ ts → left ≡ (k, x) ∷ rest
    → y ≡ x → new ≡ insert_entry nat_cmp copies k y → new ++ rest ≡ ts
copied_next ts copies new left rest k x y up so_far step same put =
    let all : copies ++ (k, x) ∷ rest ≡ ts = ap (λ l. copies ++ l) (sym step) ∙ so_far in
    ap (λ l. l ++ rest) (put ∙ ap (insert_entry nat_cmp copies k) same ∙ put_next k x copies rest (subst (λ l. IsStrictlySortedBy nat_cmp (keys_of l)) (sym all) up))
    ∙ joined copies (k, x) rest
    ∙ all

-- ---- taking one out

pub record Cut (ts : List (ℕ × List Atom)) (k : ℕ) : Type 0 where
  pub before : List (ℕ × List Atom)
  pub tuple : List Atom
  pub after : List (ℕ × List Atom)
  pub was : ts ≡ before ++ (k, tuple) ∷ after
  pub is : remove_entry (is_at (nat_cmp k)) ts ≡ before ++ after

pub cut : (ts : List (ℕ × List Atom)) (k : ℕ) → list_any (λ t. t.0 == k) ts ≡ true → Cut ts k
cut [] k h = absurd (true≢false (sym h))
cut (t ∷ ts) k h = by (t.0 == k) refl (cut ts k)
  where
    number : (a : ℕ) → (a == k) ≡ true → a ≡ k
    number a e = grind (arith, nat_tests)

    test : (b : Bool) → (t.0 == k) ≡ b → remove_entry (is_at (nat_cmp k)) (t ∷ ts) ≡ cond b ts (t ∷ remove_entry (is_at (nat_cmp k)) ts)
    test b e = ap (λ c. cond c ts (t ∷ remove_entry (is_at (nat_cmp k)) ts)) (key_test k t.0 ∙ e)

    by : (b : Bool) → (t.0 == k) ≡ b → (list_any (λ u. u.0 == k) ts ≡ true → Cut ts k) → Cut (t ∷ ts) k
    by true e next = record { before = []; tuple = t.1; after = ts; was = λ i. (number t.0 e i, t.1) ∷ ts; is = test true e }
    by false e next =
        let rest = next (sym (ap (λ b. b || list_any (λ u. u.0 == k) ts) e) ∙ h) in
        record { before = t ∷ rest.before; tuple = rest.tuple; after = rest.after; was = ap (λ l. t ∷ l) rest.was; is = test false e ∙ ap (λ l. t ∷ l) rest.is }

-- so a relation gives up the tuple
pub removes : (old new : Relation) (k : ℕ) → list_any (λ t. t.0 == k) old.tuples.entries ≡ true → new.heading ≡ old.heading → new.inserts ≡ old.inserts
    → new.tuples.entries ≡ remove_entry (is_at (nat_cmp k)) old.tuples.entries → Removes old new k
removes old new k present h n r =
    let c = cut old.tuples.entries k present in
    record { heading = h; inserts = n; before = c.before; tuple = c.tuple; after = c.after; was = c.was; is = r ∙ c.is }
