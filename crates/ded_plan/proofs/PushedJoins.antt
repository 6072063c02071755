-- A join of pushed plans is put in a pushed form, with its joins, complements and rows in their places.
--
-- Each function takes pushed parts and gives a pushed plan. Of lists of members it is said which shapes stand
-- among them (`AreMembers`, `AreWithoutRows`,
-- `AreWithoutUnion`), and what adding rows changes of this.
use Rattle.std.proofs.Common.{◌≡◌, Bool, true, false, not, ◌&&◌, ◌||◌, cond, List, [], ◌∷◌, refl, sym, ap, ◌∙◌, subst, true≢false}
use Rattle.ded_model.specs.Row.{Atom}
use Rattle.ded_model.specs.Logic.{atom, always, never, negation, every_of, some_of, implies, minus, exists, forall, Logics, none, also}
use Rattle.ded_model.specs.PlanForm.{PlanAtom, scan, rows, PlanForm}
use Rattle.ded_model.specs.Pushed.{is_union, is_join, is_not, is_rows, some_member, every_member, is_one, pushed, all_pushed}
use Rattle.ded_model.proofs.Points.{and_left, and_right}
use Rattle.ded_plan.specs.Rewrite.{appended, filtered, join_of, union_of, negated, with_rows, each_with_rows, also_rows, also_all_rows, rows_of, no_rows_of, distributed, members_of, flattened, part_of, kept, taken, difference_of, joined}
use Rattle.ded_plan.proofs.BothTests.{or_more}
use Rattle.std.proofs.lemmas.Bool.{or_from, and_from}
use Rattle.ded_num.proofs.Tests.{and_false, and_false_left}
use Rattle.ded_model.proofs.Bools.{or_false_left, or_false_right}

-- ---- members

-- one of the members of two lists
pub some_appended : (test : PlanForm → Bool) (fs gs : Logics PlanAtom) → some_member test fs ≡ false → some_member test gs ≡ false → some_member test (appended fs gs) ≡ false
some_appended test none gs h k = k
some_appended test (also f fs) gs h k = or_from _ _ (or_false_left (test f) _ h) (some_appended test fs gs (or_false_right (test f) _ h) k)

pub pushed_appended : (fs gs : Logics PlanAtom) → all_pushed fs ≡ true → all_pushed gs ≡ true → all_pushed (appended fs gs) ≡ true
pushed_appended none gs h k = k
pushed_appended (also f fs) gs h k = and_from _ _ (and_left (pushed f) _ h) (pushed_appended fs gs (and_right (pushed f) _ h) k)

-- one of the members that pass a test
pub some_filtered : (test keep : PlanForm → Bool) (fs : Logics PlanAtom) → some_member test fs ≡ false → some_member test (filtered keep fs) ≡ false
some_filtered test keep none h = h
some_filtered test keep (also f fs) h = go (keep f) (some_filtered test keep fs (or_false_right (test f) _ h))
  where
    go : (b : Bool) → some_member test (filtered keep fs) ≡ false → some_member test (cond b (also f (filtered keep fs)) (filtered keep fs)) ≡ false
    go true e = or_from _ _ (or_false_left (test f) _ h) e
    go false e = e

pub pushed_filtered : (keep : PlanForm → Bool) (fs : Logics PlanAtom) → all_pushed fs ≡ true → all_pushed (filtered keep fs) ≡ true
pushed_filtered keep none h = h
pushed_filtered keep (also f fs) h = go (keep f) (pushed_filtered keep fs (and_right (pushed f) _ h))
  where
    go : (b : Bool) → all_pushed (filtered keep fs) ≡ true → all_pushed (cond b (also f (filtered keep fs)) (filtered keep fs)) ≡ true
    go true e = and_from _ _ (and_left (pushed f) _ h) e
    go false e = e

-- all of them pass it
pub every_filtered : (keep : PlanForm → Bool) (fs : Logics PlanAtom) → every_member keep (filtered keep fs) ≡ true
every_filtered keep none = refl
every_filtered keep (also f fs) = go (keep f) refl (every_filtered keep fs)
  where
    go : (b : Bool) → keep f ≡ b → every_member keep (filtered keep fs) ≡ true → every_member keep (cond b (also f (filtered keep fs)) (filtered keep fs)) ≡ true
    go true e h = and_from _ _ e h
    go false e h = h

-- and none of those that fail another one does
none_filtered : (test : PlanForm → Bool) (fs : Logics PlanAtom) → some_member test (filtered (λ f. not (test f)) fs) ≡ false
none_filtered test none = refl
none_filtered test (also f fs) = go (test f) refl (none_filtered test fs)
  where
    go : (b : Bool) → test f ≡ b → some_member test (filtered (λ g. not (test g)) fs) ≡ false
        → some_member test (cond (not b) (also f (filtered (λ g. not (test g)) fs)) (filtered (λ g. not (test g)) fs)) ≡ false
    go true e h = h
    go false e h = or_from _ _ e h

-- one that is of another kind is still there
some_kept : (test drop : PlanForm → Bool) → ((f : PlanForm) → test f ≡ true → drop f ≡ false) → (fs : Logics PlanAtom) → some_member test fs ≡ true → some_member test (filtered (λ f. not (drop f)) fs) ≡ true
some_kept test drop apart none h = h
some_kept test drop apart (also f fs) h = go (test f) (drop f) refl refl h (some_kept test drop apart fs)
  where
    go : (a b : Bool) → test f ≡ a → drop f ≡ b → (a || some_member test fs) ≡ true → (some_member test fs ≡ true → some_member test (filtered (λ g. not (drop g)) fs) ≡ true)
        → some_member test (cond (not b) (also f (filtered (λ g. not (drop g)) fs)) (filtered (λ g. not (drop g)) fs)) ≡ true
    go a false e d i rest = subst (λ x. (x || some_member test (filtered (λ g. not (drop g)) fs)) ≡ true) (sym e) (or_more a _ _ rest i)
    go true true e d i rest = absurd (true≢false (sym d ∙ apart f e))
    go false true e d i rest = rest i

-- the members of a join, however many: no joins, no complements, and no rows beside a union
pub record AreMembers (fs : Logics PlanAtom) : Type 0 where
  pub joins : some_member is_join fs ≡ false
  pub apart : (some_member is_rows fs && some_member is_union fs) ≡ false
  pub nots : some_member is_not fs ≡ false
  pub pushed : all_pushed fs ≡ true

-- the same with a union, so without rows
record AreWithoutRows (fs : Logics PlanAtom) : Type 0 where
  joins : some_member is_join fs ≡ false
  rows : some_member is_rows fs ≡ false
  unions : some_member is_union fs ≡ true
  nots : some_member is_not fs ≡ false
  pushed : all_pushed fs ≡ true

-- the same without a union
record AreWithoutUnion (fs : Logics PlanAtom) : Type 0 where
  joins : some_member is_join fs ≡ false
  unions : some_member is_union fs ≡ false
  nots : some_member is_not fs ≡ false
  pushed : all_pushed fs ≡ true

without_rows_are : (fs : Logics PlanAtom) → AreWithoutRows fs → AreMembers fs
without_rows_are fs m = record { joins = m.joins; apart = and_false_left _ _ m.rows; nots = m.nots; pushed = m.pushed }

without_union_are : (fs : Logics PlanAtom) → AreWithoutUnion fs → AreMembers fs
without_union_are fs m = record { joins = m.joins; apart = and_false _ _ m.unions; nots = m.nots; pushed = m.pushed }

-- the tests of a join are these
join_tests : (a b d e : Bool) → a ≡ false → b ≡ false → d ≡ false → e ≡ true → ((not false && not a && not b && not d) && e) ≡ true
join_tests true b d e h i j k = absurd (true≢false h)
join_tests false true d e h i j k = absurd (true≢false i)
join_tests false false true e h i j k = absurd (true≢false j)
join_tests false false false e h i j k = k

tests_join : (x a b d e : Bool) → ((not x && not a && not b && not d) && e) ≡ true → (x ≡ false) × (a ≡ false) × (b ≡ false) × (d ≡ false) × (e ≡ true)
tests_join true a b d e h = absurd (true≢false (sym h))
tests_join false true b d e h = absurd (true≢false (sym h))
tests_join false false true d e h = absurd (true≢false (sym h))
tests_join false false false true e h = absurd (true≢false (sym h))
tests_join false false false false e h = (refl, refl, refl, refl, h)

pub pushed_join : (fs : Logics PlanAtom) → is_one fs ≡ false → AreMembers fs → pushed (every_of fs) ≡ true
pushed_join fs o m = subst (λ x. ((not x && not (some_member is_join fs) && not (some_member is_rows fs && some_member is_union fs) && not (some_member is_not fs)) && all_pushed fs) ≡ true) (sym o)
    (join_tests (some_member is_join fs) (some_member is_rows fs && some_member is_union fs) (some_member is_not fs) (all_pushed fs) m.joins m.apart m.nots m.pushed)

pub pushed_members : (fs : Logics PlanAtom) → pushed (every_of fs) ≡ true → AreMembers fs
pushed_members fs h =
    let r = tests_join (is_one fs) (some_member is_join fs) (some_member is_rows fs && some_member is_union fs) (some_member is_not fs) (all_pushed fs) h in
    record { joins = r.1; apart = r.2; nots = r.3; pushed = r.4 }

pub pushed_not_one : (fs : Logics PlanAtom) → pushed (every_of fs) ≡ true → is_one fs ≡ false
pushed_not_one fs h = (tests_join (is_one fs) (some_member is_join fs) (some_member is_rows fs && some_member is_union fs) (some_member is_not fs) (all_pushed fs) h).0

pushed_join_of : (fs : Logics PlanAtom) → AreMembers fs → pushed (join_of fs) ≡ true
pushed_join_of none m = refl
pushed_join_of (also f none) m = and_left (pushed f) true m.pushed
pushed_join_of (also f (also g gs)) m = pushed_join (also f (also g gs)) refl m

pub pushed_union_of : (fs : Logics PlanAtom) → all_pushed fs ≡ true → pushed (union_of fs) ≡ true
pushed_union_of none h = refl
pushed_union_of (also f none) h = and_left (pushed f) true h
pushed_union_of (also f (also g gs)) h = h

-- ---- rows beside a union

-- the kind of a member
union_is_no_join : (f : PlanForm) → is_union f ≡ true → is_join f ≡ false
union_is_no_join (atom a) e = absurd (true≢false (sym e))
union_is_no_join always e = absurd (true≢false (sym e))
union_is_no_join never e = absurd (true≢false (sym e))
union_is_no_join (negation f) e = absurd (true≢false (sym e))
union_is_no_join (every_of fs) e = absurd (true≢false (sym e))
union_is_no_join (some_of fs) e = refl
union_is_no_join (implies f g) e = absurd (true≢false (sym e))
union_is_no_join (minus f g) e = absurd (true≢false (sym e))
union_is_no_join (exists s k f) e = absurd (true≢false (sym e))
union_is_no_join (forall s k f) e = absurd (true≢false (sym e))

union_is_no_rows : (f : PlanForm) → is_union f ≡ true → is_rows f ≡ false
union_is_no_rows (atom a) e = absurd (true≢false (sym e))
union_is_no_rows always e = absurd (true≢false (sym e))
union_is_no_rows never e = absurd (true≢false (sym e))
union_is_no_rows (negation f) e = absurd (true≢false (sym e))
union_is_no_rows (every_of fs) e = absurd (true≢false (sym e))
union_is_no_rows (some_of fs) e = refl
union_is_no_rows (implies f g) e = absurd (true≢false (sym e))
union_is_no_rows (minus f g) e = absurd (true≢false (sym e))
union_is_no_rows (exists s k f) e = absurd (true≢false (sym e))
union_is_no_rows (forall s k f) e = absurd (true≢false (sym e))

union_is_no_not : (f : PlanForm) → is_union f ≡ true → is_not f ≡ false
union_is_no_not (atom a) e = absurd (true≢false (sym e))
union_is_no_not always e = absurd (true≢false (sym e))
union_is_no_not never e = absurd (true≢false (sym e))
union_is_no_not (negation f) e = absurd (true≢false (sym e))
union_is_no_not (every_of fs) e = absurd (true≢false (sym e))
union_is_no_not (some_of fs) e = refl
union_is_no_not (implies f g) e = absurd (true≢false (sym e))
union_is_no_not (minus f g) e = absurd (true≢false (sym e))
union_is_no_not (exists s k f) e = absurd (true≢false (sym e))
union_is_no_not (forall s k f) e = absurd (true≢false (sym e))

union_with_rows : (t : List Atom) (f : PlanForm) → is_union f ≡ true → is_union (with_rows t f) ≡ true
union_with_rows t (atom a) e = absurd (true≢false (sym e))
union_with_rows t always e = absurd (true≢false (sym e))
union_with_rows t never e = absurd (true≢false (sym e))
union_with_rows t (negation f) e = absurd (true≢false (sym e))
union_with_rows t (every_of fs) e = absurd (true≢false (sym e))
union_with_rows t (some_of fs) e = refl
union_with_rows t (implies f g) e = absurd (true≢false (sym e))
union_with_rows t (minus f g) e = absurd (true≢false (sym e))
union_with_rows t (exists s k f) e = absurd (true≢false (sym e))
union_with_rows t (forall s k f) e = absurd (true≢false (sym e))

one_with_rows : (t : List Atom) (fs : Logics PlanAtom) → is_one (each_with_rows t fs) ≡ is_one fs
one_with_rows t none = refl
one_with_rows t (also f none) = refl
one_with_rows t (also f (also g gs)) = refl

-- where no member is a union, the rows are one member more
rows_are_one_more : (t : List Atom) (fs : Logics PlanAtom) → AreWithoutUnion fs → AreWithoutUnion (also_rows t fs)
rows_are_one_more t none m = record { joins = refl; unions = refl; nots = refl; pushed = refl }
rows_are_one_more t (also f fs) m =
    go (is_union f) (or_false_left (is_union f) _ m.unions)
    (rows_are_one_more t fs (record { joins = or_false_right (is_join f) _ m.joins; unions = or_false_right (is_union f) _ m.unions; nots = or_false_right (is_not f) _ m.nots; pushed = and_right (pushed f) _ m.pushed }))
  where
    go : (b : Bool) → b ≡ false → AreWithoutUnion (also_rows t fs) → AreWithoutUnion (cond b (also (with_rows t f) fs) (also f (also_rows t fs)))
    go true e r = absurd (true≢false e)
    go false e r = record {
      joins = or_from _ _ (or_false_left (is_join f) _ m.joins) r.joins;
      unions = or_from _ _ (or_false_left (is_union f) _ m.unions) r.unions;
      nots = or_from _ _ (or_false_left (is_not f) _ m.nots) r.nots;
      pushed = and_from _ _ (and_left (pushed f) _ m.pushed) r.pushed;
    }

-- else a union takes them
union_takes_rows : (t : List Atom) (f : PlanForm) (fs : Logics PlanAtom) (b : Bool) → is_union f ≡ b → AreWithoutRows (also f fs) → (pushed f ≡ true → pushed (with_rows t f) ≡ true)
    → (AreWithoutRows fs → AreWithoutRows (also_rows t fs)) → AreWithoutRows (cond b (also (with_rows t f) fs) (also f (also_rows t fs)))
union_takes_rows t f fs true e m here rest =
    let u = union_with_rows t f e in
    record {
      joins = or_from _ _ (union_is_no_join (with_rows t f) u) (or_false_right (is_join f) _ m.joins);
      rows = or_from _ _ (union_is_no_rows (with_rows t f) u) (or_false_right (is_rows f) _ m.rows);
      unions = ap (λ x. x || some_member is_union fs) u;
      nots = or_from _ _ (union_is_no_not (with_rows t f) u) (or_false_right (is_not f) _ m.nots);
      pushed = and_from _ _ (here (and_left (pushed f) _ m.pushed)) (and_right (pushed f) _ m.pushed);
    }
union_takes_rows t f fs false e m here rest =
    let r = rest (record {
      joins = or_false_right (is_join f) _ m.joins;
      rows = or_false_right (is_rows f) _ m.rows;
      unions = subst (λ x. (x || some_member is_union fs) ≡ true) e m.unions;
      nots = or_false_right (is_not f) _ m.nots;
      pushed = and_right (pushed f) _ m.pushed;
    }) in
    record {
      joins = or_from _ _ (or_false_left (is_join f) _ m.joins) r.joins;
      rows = or_from _ _ (or_false_left (is_rows f) _ m.rows) r.rows;
      unions = ap (λ x. x || some_member is_union (also_rows t fs)) e ∙ r.unions;
      nots = or_from _ _ (or_false_left (is_not f) _ m.nots) r.nots;
      pushed = and_from _ _ (and_left (pushed f) _ m.pushed) r.pushed;
    }

-- rows among the members of a join
pushed_also_rows : (t : List Atom) (fs : Logics PlanAtom) (b : Bool) → some_member is_union fs ≡ b → AreMembers fs → (AreWithoutRows fs → AreWithoutRows (also_rows t fs)) → AreMembers (also_rows t fs)
pushed_also_rows t fs true e m takes =
    without_rows_are (also_rows t fs)
    (takes (record { joins = m.joins; rows = no_rows (some_member is_rows fs) (some_member is_union fs) e m.apart; unions = e; nots = m.nots; pushed = m.pushed }))
  where
    no_rows : (a b : Bool) → b ≡ true → (a && b) ≡ false → a ≡ false
    no_rows true b h k = absurd (true≢false (sym h ∙ k))
    no_rows false b h k = refl
pushed_also_rows t fs false e m takes = without_union_are (also_rows t fs) (rows_are_one_more t fs (record { joins = m.joins; unions = e; nots = m.nots; pushed = m.pushed }))

mutual
  pushed_with_rows : (t : List Atom) (f : PlanForm) → pushed f ≡ true → pushed (with_rows t f) ≡ true
  pushed_with_rows t (atom (scan n ss)) h = refl
  pushed_with_rows t (atom (rows a)) h = refl
  pushed_with_rows t always h = absurd (true≢false (sym h))
  pushed_with_rows t never h = absurd (true≢false (sym h))
  pushed_with_rows t (negation f) h = and_right (not (is_not f)) _ h
  pushed_with_rows t (every_of fs) h = pushed_join_of (also_rows t fs) (pushed_also_rows t fs (some_member is_union fs) refl (pushed_members fs h) (rows_taken t fs))
  pushed_with_rows t (some_of fs) h =
      and_from _ _ (ap not (one_with_rows t fs) ∙ and_left (not (is_one fs)) _ h) (pushed_each_with_rows t fs (and_right (not (is_one fs)) _ h))
  pushed_with_rows t (implies f g) h = absurd (true≢false (sym h))
  pushed_with_rows t (minus f g) h = and_from (pushed (minus f g)) true h refl
  pushed_with_rows t (exists s k f) h = and_from (pushed (exists s k f)) true h refl
  pushed_with_rows t (forall s k f) h = absurd (true≢false (sym h))

  pushed_each_with_rows : (t : List Atom) (fs : Logics PlanAtom) → all_pushed fs ≡ true → all_pushed (each_with_rows t fs) ≡ true
  pushed_each_with_rows t none h = refl
  pushed_each_with_rows t (also f fs) h = and_from _ _ (pushed_with_rows t f (and_left (pushed f) _ h)) (pushed_each_with_rows t fs (and_right (pushed f) _ h))

  rows_taken : (t : List Atom) (fs : Logics PlanAtom) → AreWithoutRows fs → AreWithoutRows (also_rows t fs)
  rows_taken t none m = absurd (true≢false (sym m.unions))
  rows_taken t (also f fs) m = union_takes_rows t f fs (is_union f) refl m (pushed_with_rows t f) (rows_taken t fs)

all_rows_taken : (ts : List (List Atom)) (fs : Logics PlanAtom) → AreWithoutRows fs → AreWithoutRows (also_all_rows ts fs)
all_rows_taken [] fs m = m
all_rows_taken (t ∷ ts) fs m = all_rows_taken ts (also_rows t fs) (rows_taken t fs m)

-- members without joins and complements, with rows beside unions or not
record AreApart (fs : Logics PlanAtom) : Type 0 where
  joins : some_member is_join fs ≡ false
  nots : some_member is_not fs ≡ false
  pushed : all_pushed fs ≡ true

pushed_distributed : (fs : Logics PlanAtom) → AreApart fs → AreMembers (distributed fs)
pushed_distributed fs m = go (some_member is_rows fs && some_member is_union fs) refl
  where
    go : (b : Bool) → (some_member is_rows fs && some_member is_union fs) ≡ b → AreMembers (cond b (also_all_rows (rows_of fs) (no_rows_of fs)) fs)
    go true e = without_rows_are _ (all_rows_taken (rows_of fs) (no_rows_of fs) (record {
      joins = some_filtered is_join (λ f. not (is_rows f)) fs m.joins;
      rows = none_filtered is_rows fs;
      unions = some_kept is_union is_rows union_is_no_rows fs (and_right (some_member is_rows fs) _ e);
      nots = some_filtered is_not (λ f. not (is_rows f)) fs m.nots;
      pushed = pushed_filtered (λ f. not (is_rows f)) fs m.pushed;
    }))
    go false e = record { joins = m.joins; apart = e; nots = m.nots; pushed = m.pushed }

-- ---- joins

pub pushed_negated : (f : PlanForm) → pushed f ≡ true → pushed (negated f) ≡ true
pushed_negated (atom a) h = h
pushed_negated always h = h
pushed_negated never h = h
pushed_negated (negation f) h = and_right (not (is_not f)) _ h
pushed_negated (every_of fs) h = h
pushed_negated (some_of fs) h = h
pushed_negated (implies f g) h = h
pushed_negated (minus f g) h = h
pushed_negated (exists s k f) h = h
pushed_negated (forall s k f) h = h

pushed_part : (f : PlanForm) → pushed f ≡ true → pushed (part_of f) ≡ true
pushed_part (atom a) h = h
pushed_part always h = h
pushed_part never h = h
pushed_part (negation f) h = and_right (not (is_not f)) _ h
pushed_part (every_of fs) h = h
pushed_part (some_of fs) h = h
pushed_part (implies f g) h = h
pushed_part (minus f g) h = h
pushed_part (exists s k f) h = h
pushed_part (forall s k f) h = h

-- members without joins
record AreFlat (fs : Logics PlanAtom) : Type 0 where
  joins : some_member is_join fs ≡ false
  pushed : all_pushed fs ≡ true

one_flat : (f : PlanForm) → is_join f ≡ false → pushed f ≡ true → AreFlat (also f none)
one_flat f e h = record { joins = or_from _ _ e refl; pushed = and_from _ _ h refl }

flat_members : (f : PlanForm) → pushed f ≡ true → AreFlat (members_of f)
flat_members (atom a) h = one_flat (atom a) refl h
flat_members always h = one_flat always refl h
flat_members never h = one_flat never refl h
flat_members (negation f) h = one_flat (negation f) refl h
flat_members (every_of fs) h = let m = pushed_members fs h in record { joins = m.joins; pushed = m.pushed }
flat_members (some_of fs) h = one_flat (some_of fs) refl h
flat_members (implies f g) h = one_flat (implies f g) refl h
flat_members (minus f g) h = one_flat (minus f g) refl h
flat_members (exists s k f) h = one_flat (exists s k f) refl h
flat_members (forall s k f) h = one_flat (forall s k f) refl h

flat_flattened : (fs : Logics PlanAtom) → all_pushed fs ≡ true → AreFlat (flattened fs)
flat_flattened none h = record { joins = refl; pushed = refl }
flat_flattened (also f fs) h =
    let m = flat_members f (and_left (pushed f) _ h) in
    let r = flat_flattened fs (and_right (pushed f) _ h) in
    record { joins = some_appended is_join (members_of f) (flattened fs) m.joins r.joins; pushed = pushed_appended (members_of f) (flattened fs) m.pushed r.pushed }

pushed_taken : (fs : Logics PlanAtom) → all_pushed fs ≡ true → all_pushed (taken fs) ≡ true
pushed_taken none h = refl
pushed_taken (also f fs) h = go (is_not f) (pushed_taken fs (and_right (pushed f) _ h))
  where
    go : (b : Bool) → all_pushed (taken fs) ≡ true → all_pushed (cond b (also (part_of f) (taken fs)) (taken fs)) ≡ true
    go true e = and_from _ _ (pushed_part f (and_left (pushed f) _ h)) e
    go false e = e

pushed_difference : (fs gs : Logics PlanAtom) → AreApart fs → all_pushed gs ≡ true → pushed (difference_of fs gs) ≡ true
pushed_difference none none m h = refl
pushed_difference (also f fs) none m h = pushed_join_of _ (pushed_distributed (also f fs) m)
pushed_difference none (also g gs) m h = pushed_negated (union_of (also g gs)) (pushed_union_of (also g gs) h)
pushed_difference (also f fs) (also g gs) m h = and_from _ _ (pushed_join_of _ (pushed_distributed (also f fs) m)) (pushed_union_of (also g gs) h)

pub pushed_joined : (fs : Logics PlanAtom) → all_pushed fs ≡ true → pushed (joined fs) ≡ true
pushed_joined fs h =
    let m = flat_flattened fs h in
    pushed_difference (kept (flattened fs)) (taken (flattened fs))
    (record { joins = some_filtered is_join (λ f. not (is_not f)) (flattened fs) m.joins; nots = none_filtered is_not (flattened fs); pushed = pushed_filtered (λ f. not (is_not f)) (flattened fs) m.pushed })
    (pushed_taken (flattened fs) m.pushed)
