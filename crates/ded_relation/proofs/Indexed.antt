-- The index of a relation's tuples, after an insert, a refused one, a delete and a copy, and what it finds.
use Rattle.std.proofs.Common.{◌≡◌, ℕ, zero, suc, ◌<◌, ◌==◌, ◌||◌, nat_eq, Bool, true, false, cond, List, [], ◌∷◌, ◌++◌, length, get_or, None, is_some, inl, inr, refl, sym, ap, ◌∙◌, subst, append_assoc, arith}
use Rattle.std.specs.BTreeMap.{is_at}
use Rattle.std.specs.List.{Contains, list_any}
use Rattle.std.specs.Map.{lookup, remove_entry}
use Rattle.std.specs.Ordering.{nat_cmp}
use Rattle.std.specs.List.Sorted.{IsPermutation}
use Rattle.std.proofs.lemmas.Bool.Decides.{nat_tests}
use Rattle.std.proofs.lemmas.List.Elements.{All-filter}
use Rattle.std.proofs.lemmas.List.Sorted.{Contains-permutation}
use Rattle.ded_model.specs.Row.{Atom, tuple_holds}
use Rattle.ded_model.proofs.Lists.{Every, Some, every-append, every_all, all_every}
use Rattle.ded_model.proofs.Rows.{or_right}
use Rattle.ded_hull.specs.declared.entry.ReachEntry.{ReachEntry}
use Rattle.ded_ranges.specs.declared.window.Window.{Window}
use Rattle.ded_hull.specs.Entries.{of_keys, IsComplete}
use Rattle.ded_ranges.specs.Limits.{are_met}
use Rattle.ded_ranges.specs.Reaches.{Lies}
use Rattle.ded_ranges.specs.Windows.{column_value, is_text_met, IsMissed}
use Rattle.std.specs.List.{list_all}
use Rattle.ded_relation.specs.Relations.{IsEntryOf, IsIndex, Indexes}
use Rattle.ded_relation.specs.Tuples.{AreUpTo}
use Rattle.ded_relation.proofs.Numbers.{above_none, found_numbered, cut}
use Rattle.ded_model.proofs.Bools.{or_false_left, or_false_right}
use Rattle.ded_model.proofs.Points.{and_left}

-- ---- some element, by place

some_there : {A : Type 0} (P : A → Type 0) (xs : List A) → Some P xs → (x : A) × Contains xs x × P x
some_there P [] h = absurd h
some_there P (x ∷ xs) (inl h) = (x, (zero, omega arith, refl), h)
some_there P (x ∷ xs) (inr h) = let s = some_there P xs h in (s.0, (suc s.1.0, omega (arith, s.1.1), s.1.2), s.2)

there_some : {A : Type 0} (P : A → Type 0) (xs : List A) (x : A) (k : ℕ) → k < length xs → get_or xs k x ≡ x → P x → Some P xs
there_some P [] x k h e p = absurd (omega (arith, h))
there_some P (y ∷ xs) x zero h e p = inl (subst P (sym e) p)
there_some P (y ∷ xs) x (suc k) h e p = inr (there_some P xs x k (omega (arith, h)) e p)

some_moved : {A : Type 0} (P : A → Type 0) (xs ys : List A) → IsPermutation xs ys → Some P xs → Some P ys
some_moved P xs ys p h =
    let s = some_there P xs h in
    let c = Contains-permutation xs ys s.0 p s.1 in
    there_some P ys s.0 c.0 c.1 c.2 s.2

every_by : {A : Type 0} (P Q : A → Type 0) (xs : List A) → ((x : A) → P x → Q x) → Every P xs → Every Q xs
every_by P Q [] f h = tt
every_by P Q (x ∷ xs) f h = (f x h.0, every_by P Q xs f h.1)

-- ---- moved, and one more

-- in another order
pub moved : (es fs : List ReachEntry) (ts : List (ℕ × List Atom)) → IsPermutation es fs → IsIndex es ts → IsIndex fs ts
moved es fs ts p h = every_by _ _ ts (λ t s. some_moved (IsEntryOf t) es fs p s) h

-- with one entry more
pub longer : (old new : List ReachEntry) (ts : List (ℕ × List Atom)) (t : ℕ × List Atom) → IsIndex old ts → Indexes t old new → IsIndex new ts
longer old new ts t h x = moved (x.entry ∷ old) new ts x.list (every_by _ _ ts (λ u s. inr s) h)

-- and its tuple at the end
pub pushed : (old new : List ReachEntry) (ts us : List (ℕ × List Atom)) (t : ℕ × List Atom) → IsIndex old ts → Indexes t old new → us ≡ ts ++ t ∷ [] → IsIndex new us
pushed old new ts us t h x e =
    subst (IsIndex new) (sym e)
    (every-append (λ u. Some (IsEntryOf u) new) ts (t ∷ []) (longer old new ts t h x) (some_moved (IsEntryOf t) (x.entry ∷ old) new x.list (inl x.is), tt))

-- ---- without what has no tuple's number

some_left : (P : ReachEntry → Type 0) (vs : List (ℕ × List Atom)) (es : List ReachEntry) → ((e : ReachEntry) → P e → is_some (lookup (is_at (nat_cmp e.id)) vs) ≡ true) → Some P es → Some P (of_keys vs es)
some_left P vs [] f h = absurd h
some_left P vs (e ∷ es) f (inl h) = subst (λ b. Some P (cond b (e ∷ of_keys vs es) (of_keys vs es))) (sym (f e h)) (inl h)
some_left P vs (e ∷ es) f (inr h) = by (is_some (lookup (is_at (nat_cmp e.id)) vs)) (some_left P vs es f h)
  where
    by : (b : Bool) → Some P (of_keys vs es) → Some P (cond b (e ∷ of_keys vs es) (of_keys vs es))
    by true s = inr s
    by false s = s

-- what is true of each entry is so of those
pub every_of : (P : ReachEntry → Type 0) (vs : List (ℕ × List Atom)) (es : List ReachEntry) → Every P es → Every P (of_keys vs es)
every_of P vs es h = all_every P (of_keys vs es) (All-filter (λ e. is_some (lookup (is_at (nat_cmp e.id)) vs)) P es (every_all P es h))

pub pruned : (es fs : List ReachEntry) (ts : List (ℕ × List Atom)) → IsPermutation (of_keys ts es) fs → IsIndex es ts → IsIndex fs ts
pruned es fs ts p h = moved (of_keys ts es) fs ts p (each [] ts refl h)
  where
    same : (k : ℕ) → (k == k) ≡ true
    same k = grind (arith, nat_tests)

    has : (front : List (ℕ × List Atom)) (t : ℕ × List Atom) (us : List (ℕ × List Atom)) → list_any (λ u. u.0 == t.0) (front ++ t ∷ us) ≡ true
    has [] t us = ap (λ b. b || list_any (λ u. u.0 == t.0) us) (same t.0)
    has (u ∷ front) t us = or_right (u.0 == t.0) (list_any (λ u. u.0 == t.0) (front ++ t ∷ us)) (has front t us)

    there : (front : List (ℕ × List Atom)) (t : ℕ × List Atom) (us : List (ℕ × List Atom)) → front ++ t ∷ us ≡ ts → (e : ReachEntry) → IsEntryOf t e → is_some (lookup (is_at (nat_cmp e.id)) ts) ≡ true
    there front t us is e x = ap (λ k. is_some (lookup (is_at (nat_cmp k)) ts)) x.0 ∙ found_numbered t.0 ts ∙ subst (λ xs. list_any (λ u. u.0 == t.0) xs ≡ true) is (has front t us)

    each : (front us : List (ℕ × List Atom)) → front ++ us ≡ ts → Every (λ t. Some (IsEntryOf t) es) us → Every (λ t. Some (IsEntryOf t) (of_keys ts es)) us
    each front [] is h = tt
    each front (t ∷ us) is h = (some_left (IsEntryOf t) ts es (there front t us is) h.0, each (front ++ t ∷ []) us (append_assoc front (t ∷ []) us ∙ is) h.1)

-- ---- numbers of no tuple

-- no tuple has the number
abbrev pub IsFree : ℕ → List (ℕ × List Atom) → Type 0
IsFree k ts = Every (λ t. nat_eq t.0 k ≡ false) ts

free_from : (k : ℕ) (ts : List (ℕ × List Atom)) → list_any (λ t. t.0 == k) ts ≡ false → IsFree k ts
free_from k [] h = tt
free_from k (t ∷ ts) h = (or_false_left (t.0 == k) (list_any (λ t. t.0 == k) ts) h, free_from k ts (or_false_right (t.0 == k) (list_any (λ t. t.0 == k) ts) h))

pub free_above : (m k : ℕ) (ts : List (ℕ × List Atom)) → m < k → AreUpTo m ts → IsFree k ts
free_above m k ts lt up = free_from k ts (above_none m k ts lt up)

-- no tuple has the number then, and what is true of each tuple stays so
pub taken_free : (k : ℕ) (ts us : List (ℕ × List Atom)) → list_any (λ t. t.0 == k) ts ≡ true → us ≡ remove_entry (is_at (nat_cmp k)) ts → lookup (is_at (nat_cmp k)) us ≡ None
    → IsFree k us × ((P : ℕ × List Atom → Type 0) → Every P ts → Every P us)
taken_free k ts us present is gone =
    let c = cut ts k present in
    let split : us ≡ c.before ++ c.after = is ∙ c.is in
    (free_from k us (sym (found_numbered k us) ∙ ap is_some gone), λ P h. subst (Every P) (sym split) (part P c.before c.after (k, c.tuple) (subst (Every P) c.was h)))
  where
    part : (P : ℕ × List Atom → Type 0) (before after : List (ℕ × List Atom)) (t : ℕ × List Atom) → Every P (before ++ t ∷ after) → Every P (before ++ after)
    part P [] after t h = h.1
    part P (b ∷ bs) after t h = (h.0, part P bs after t h.1)

-- ---- what is found

apart_from : (a b : Bool) → (a ≡ true → b ≡ true → ⊥) → b ≡ true → a ≡ false
apart_from true b h e = absurd (h refl e)
apart_from false b h e = refl

pub missed : (w : Window) (es : List ReachEntry) (ids : List ℕ) (t : ℕ × List Atom) → IsComplete w.limits.items es ids → Some (IsEntryOf t) es → (Contains ids t.0 → ⊥) → IsMissed w t.1
missed w es ids t complete some none p is within = apart_from (tuple_holds t.1 p) true (λ holds e. none (there es (complete (column_value p) p.den is.positive met) some holds)) refl
  where
    met : are_met (column_value p) p.den w.limits.items ≡ true
    met = and_left (are_met (column_value p) p.den w.limits.items) (list_all (is_text_met p) w.texts.items) within

    there : (es : List ReachEntry) → Every (λ e. Lies e.reach (column_value p) p.den → Contains ids e.id) es → Some (IsEntryOf t) es → tuple_holds t.1 p ≡ true → Contains ids t.0
    there [] c s h = absurd s
    there (e ∷ es) c (inl s) h = subst (Contains ids) s.0 (c.0 (s.1 p is h))
    there (e ∷ es) c (inr s) h = there es c.1 s h
