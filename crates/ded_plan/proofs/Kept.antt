-- The plan that is put in the place of a plan keeps it.
--
-- The functions of the rewriting are followed step by step: what each does to a plan is a chain of single steps, with the parts
-- rewritten by induction.
use Rattle.std.proofs.Common.{◌≡◌, Bool, true, false, not, ◌&&◌, ◌||◌, cond, List, [], ◌∷◌, refl, sym, ap, ap₂, ◌∙◌, subst, true≢false}
use Rattle.std.specs.Prelude.{if◌then◌else◌}
use Rattle.ded_model.specs.declared.slot.Sort.{Sort}
use Rattle.ded_model.specs.Point.{Key}
use Rattle.ded_model.specs.Row.{Atom}
use Rattle.ded_model.specs.Logic.{atom, always, never, negation, every_of, some_of, implies, minus, exists, forall, Logics, none, also}
use Rattle.ded_model.specs.PlanForm.{PlanAtom, scan, rows, PlanForm, plan_mentions}
use Rattle.ded_model.specs.Pushed.{is_union, is_not, is_rows, some_member, is_one}
use Rattle.ded_plan.specs.Rewrite.{appended, is_none, join_of, union_of, negated, with_rows, each_with_rows, also_rows, also_all_rows, atoms_of, rows_of, no_rows_of, distributed, members_of, flattened, part_of, kept, taken, difference_of, joined, inside, outside, projected_join, projected_down, each_projected, projected, rewritten, each_rewritten}
use Rattle.ded_plan.proofs.Keeps.{Keeps, any_mention, keeps_refl, keeps_trans, keeps_negation, keeps_exists, keeps_minus, keeps_member, keeps_part}
use Rattle.ded_plan.proofs.Steps.{member_alone, alone_member, no_members, first_member, members_swapped, two_members, part_alone, rows_beside_nothing, rows_beside_union, complement_twice, nothing_taken, taken_from_everything, everything_without, member_without, complement_beside, member_beside}
use Rattle.ded_plan.proofs.FormSteps.{always_is, never_is, implies_is, forall_is}
use Rattle.ded_plan.proofs.PastSteps.{past_other, past_nothing, past_union, past_member}
use Rattle.ded_model.proofs.Bools.{or_false_left, or_false_right}

-- ---- members

-- one member or part stands for itself
keeps_join_of : (fs : Logics PlanAtom) → Keeps (every_of fs) (join_of fs)
keeps_join_of none = keeps_refl (every_of none)
keeps_join_of (also f none) = member_alone f
keeps_join_of (also f (also g gs)) = keeps_refl (every_of (also f (also g gs)))

keeps_union_of : (fs : Logics PlanAtom) → Keeps (some_of fs) (union_of fs)
keeps_union_of none = keeps_refl (some_of none)
keeps_union_of (also f none) = part_alone f
keeps_union_of (also f (also g gs)) = keeps_refl (some_of (also f (also g gs)))

-- the other members
keeps_others : (f : PlanForm) (fs gs : Logics PlanAtom) → Keeps (every_of fs) (every_of gs) → Keeps (every_of (also f fs)) (every_of (also f gs))
keeps_others f fs gs a = keeps_member f f fs gs (keeps_refl f) a

-- members after others
keeps_after : (os fs gs : Logics PlanAtom) → Keeps (every_of fs) (every_of gs) → Keeps (every_of (appended os fs)) (every_of (appended os gs))
keeps_after none fs gs a = a
keeps_after (also f os) fs gs a = keeps_others f _ _ (keeps_after os fs gs a)

-- a member moves past others
moved_past : (f : PlanForm) (os fs : Logics PlanAtom) → Keeps (every_of (also f (appended os fs))) (every_of (appended os (also f fs)))
moved_past f none fs = keeps_refl (every_of (also f fs))
moved_past f (also g os) fs = keeps_trans _ _ _ (members_swapped f g (appended os fs)) (keeps_others g _ _ (moved_past f os fs))

-- ---- joins in joins

members_in : (hs fs gs : Logics PlanAtom) → Keeps (every_of fs) (every_of gs) → Keeps (every_of (also (every_of hs) fs)) (every_of (appended hs gs))
members_in none fs gs a = keeps_trans _ _ _ (no_members fs) a
members_in (also h hs) fs gs a = keeps_trans _ _ _ (first_member h hs fs) (keeps_others h _ _ (members_in hs fs gs a))

keeps_members_of : (f : PlanForm) (fs gs : Logics PlanAtom) → Keeps (every_of fs) (every_of gs) → Keeps (every_of (also f fs)) (every_of (appended (members_of f) gs))
keeps_members_of (atom t) fs gs a = keeps_others (atom t) fs gs a
keeps_members_of always fs gs a = keeps_others always fs gs a
keeps_members_of never fs gs a = keeps_others never fs gs a
keeps_members_of (negation f) fs gs a = keeps_others (negation f) fs gs a
keeps_members_of (every_of hs) fs gs a = members_in hs fs gs a
keeps_members_of (some_of hs) fs gs a = keeps_others (some_of hs) fs gs a
keeps_members_of (implies f g) fs gs a = keeps_others (implies f g) fs gs a
keeps_members_of (minus f g) fs gs a = keeps_others (minus f g) fs gs a
keeps_members_of (exists s k f) fs gs a = keeps_others (exists s k f) fs gs a
keeps_members_of (forall s k f) fs gs a = keeps_others (forall s k f) fs gs a

keeps_flattened : (fs : Logics PlanAtom) → Keeps (every_of fs) (every_of (flattened fs))
keeps_flattened none = keeps_refl (every_of none)
keeps_flattened (also f fs) = keeps_members_of f fs (flattened fs) (keeps_flattened fs)

-- ---- rows beside a union

-- the first member, or the others, with the rows
rows_first : (a : List Atom) (f : PlanForm) (fs : Logics PlanAtom) (b : Bool)
    → Keeps (every_of (also (atom (rows a)) (also f none))) (with_rows a f) → Keeps (every_of (also (atom (rows a)) fs)) (every_of (also_rows a fs))
    → Keeps (every_of (also (atom (rows a)) (also f fs))) (every_of (cond b (also (with_rows a f) fs) (also f (also_rows a fs))))
rows_first a f fs true x y = keeps_trans _ _ _ (two_members (atom (rows a)) f fs) (keeps_member _ _ fs fs x (keeps_refl (every_of fs)))
rows_first a f fs false x y = keeps_trans _ _ _ (members_swapped (atom (rows a)) f fs) (keeps_others f _ _ y)

mutual
  keeps_with_rows : (a : List Atom) (f : PlanForm) → Keeps (every_of (also (atom (rows a)) (also f none))) (with_rows a f)
  keeps_with_rows a (some_of fs) = keeps_each_with_rows a fs
  keeps_with_rows a (every_of fs) =
      keeps_trans _ _ _ (keeps_others (atom (rows a)) _ _ (member_alone (every_of fs))) (keeps_trans _ _ _ (keeps_also_rows a fs) (keeps_join_of (also_rows a fs)))
  keeps_with_rows a (negation f) = member_without (atom (rows a)) f
  keeps_with_rows a (atom b) = members_swapped (atom (rows a)) (atom b) none
  keeps_with_rows a always = members_swapped (atom (rows a)) always none
  keeps_with_rows a never = members_swapped (atom (rows a)) never none
  keeps_with_rows a (implies f g) = members_swapped (atom (rows a)) (implies f g) none
  keeps_with_rows a (minus f g) = members_swapped (atom (rows a)) (minus f g) none
  keeps_with_rows a (exists s k f) = members_swapped (atom (rows a)) (exists s k f) none
  keeps_with_rows a (forall s k f) = members_swapped (atom (rows a)) (forall s k f) none

  keeps_each_with_rows : (a : List Atom) (fs : Logics PlanAtom) → Keeps (every_of (also (atom (rows a)) (also (some_of fs) none))) (some_of (each_with_rows a fs))
  keeps_each_with_rows a none = rows_beside_nothing a
  keeps_each_with_rows a (also f fs) =
      keeps_trans _ _ _ (rows_beside_union a f fs) (keeps_part _ _ _ _ (keeps_with_rows a f) (keeps_trans _ _ _ (part_alone _) (keeps_each_with_rows a fs)))

  keeps_also_rows : (a : List Atom) (fs : Logics PlanAtom) → Keeps (every_of (also (atom (rows a)) fs)) (every_of (also_rows a fs))
  keeps_also_rows a none = keeps_refl (every_of (also (atom (rows a)) none))
  keeps_also_rows a (also f fs) = rows_first a f fs (is_union f) (keeps_with_rows a f) (keeps_also_rows a fs)

-- rows as the first members
abbrev rows_before : List (List Atom) → Logics PlanAtom → Logics PlanAtom
rows_before [] fs = fs
rows_before (a ∷ ts) fs = also (atom (rows a)) (rows_before ts fs)

keeps_after_rows : (ts : List (List Atom)) (fs gs : Logics PlanAtom) → Keeps (every_of fs) (every_of gs) → Keeps (every_of (rows_before ts fs)) (every_of (rows_before ts gs))
keeps_after_rows [] fs gs a = a
keeps_after_rows (t ∷ ts) fs gs a = keeps_others (atom (rows t)) _ _ (keeps_after_rows ts fs gs a)

moved_past_rows : (f : PlanForm) (ts : List (List Atom)) (fs : Logics PlanAtom) → Keeps (every_of (also f (rows_before ts fs))) (every_of (rows_before ts (also f fs)))
moved_past_rows f [] fs = keeps_refl (every_of (also f fs))
moved_past_rows f (t ∷ ts) fs = keeps_trans _ _ _ (members_swapped f (atom (rows t)) (rows_before ts fs)) (keeps_others (atom (rows t)) _ _ (moved_past_rows f ts fs))

keeps_also_all_rows : (ts : List (List Atom)) (fs : Logics PlanAtom) → Keeps (every_of (rows_before ts fs)) (every_of (also_all_rows ts fs))
keeps_also_all_rows [] fs = keeps_refl (every_of fs)
keeps_also_all_rows (t ∷ ts) fs =
    keeps_trans _ _ _ (moved_past_rows (atom (rows t)) ts fs) (keeps_trans _ _ _ (keeps_after_rows ts (also (atom (rows t)) fs) (also_rows t fs) (keeps_also_rows t fs)) (keeps_also_all_rows ts (also_rows t fs)))

is_rows_is : (f : PlanForm) → is_rows f ≡ true → f ≡ atom (rows (atoms_of f))
is_rows_is (atom (rows t)) e = refl
is_rows_is (atom (scan n ss)) e = absurd (true≢false (sym e))
is_rows_is always e = absurd (true≢false (sym e))
is_rows_is never e = absurd (true≢false (sym e))
is_rows_is (negation f) e = absurd (true≢false (sym e))
is_rows_is (every_of hs) e = absurd (true≢false (sym e))
is_rows_is (some_of hs) e = absurd (true≢false (sym e))
is_rows_is (implies f g) e = absurd (true≢false (sym e))
is_rows_is (minus f g) e = absurd (true≢false (sym e))
is_rows_is (exists s k f) e = absurd (true≢false (sym e))
is_rows_is (forall s k f) e = absurd (true≢false (sym e))

-- the rows first
keeps_rows_first : (fs : Logics PlanAtom) → Keeps (every_of fs) (every_of (rows_before (rows_of fs) (no_rows_of fs)))
keeps_rows_first none = keeps_refl (every_of none)
keeps_rows_first (also f fs) = go (is_rows f) refl (keeps_rows_first fs)
  where
    go : (b : Bool) → is_rows f ≡ b → Keeps (every_of fs) (every_of (rows_before (rows_of fs) (no_rows_of fs)))
        → Keeps (every_of (also f fs)) (every_of (rows_before (cond b (atoms_of f ∷ rows_of fs) (rows_of fs)) (cond (not b) (also f (no_rows_of fs)) (no_rows_of fs))))
    go true e a = subst (λ g. Keeps (every_of (also f fs)) (every_of (also g (rows_before (rows_of fs) (no_rows_of fs))))) (is_rows_is f e) (keeps_others f _ _ a)
    go false e a = keeps_trans _ _ _ (keeps_others f _ _ a) (moved_past_rows f (rows_of fs) (no_rows_of fs))

keeps_distributed : (fs : Logics PlanAtom) → Keeps (every_of fs) (every_of (distributed fs))
keeps_distributed fs = go (some_member is_rows fs && some_member is_union fs)
  where
    go : (b : Bool) → Keeps (every_of fs) (every_of (cond b (also_all_rows (rows_of fs) (no_rows_of fs)) fs))
    go true = keeps_trans _ _ _ (keeps_rows_first fs) (keeps_also_all_rows (rows_of fs) (no_rows_of fs))
    go false = keeps_refl (every_of fs)

-- ---- complements

keeps_negated : (f : PlanForm) → Keeps (negation f) (negated f)
keeps_negated (atom a) = keeps_refl (negation (atom a))
keeps_negated always = keeps_refl (negation always)
keeps_negated never = keeps_refl (negation never)
keeps_negated (negation f) = complement_twice f
keeps_negated (every_of hs) = keeps_refl (negation (every_of hs))
keeps_negated (some_of hs) = keeps_refl (negation (some_of hs))
keeps_negated (implies f g) = keeps_refl (negation (implies f g))
keeps_negated (minus f g) = keeps_refl (negation (minus f g))
keeps_negated (exists s k f) = keeps_refl (negation (exists s k f))
keeps_negated (forall s k f) = keeps_refl (negation (forall s k f))

is_not_is : (f : PlanForm) → is_not f ≡ true → f ≡ negation (part_of f)
is_not_is (negation f) e = refl
is_not_is (atom a) e = absurd (true≢false (sym e))
is_not_is always e = absurd (true≢false (sym e))
is_not_is never e = absurd (true≢false (sym e))
is_not_is (every_of hs) e = absurd (true≢false (sym e))
is_not_is (some_of hs) e = absurd (true≢false (sym e))
is_not_is (implies f g) e = absurd (true≢false (sym e))
is_not_is (minus f g) e = absurd (true≢false (sym e))
is_not_is (exists s k f) e = absurd (true≢false (sym e))
is_not_is (forall s k f) e = absurd (true≢false (sym e))

-- the parts of complements are taken from the other members
keeps_taken : (fs : Logics PlanAtom) → Keeps (every_of fs) (minus (every_of (kept fs)) (some_of (taken fs)))
keeps_taken none = taken_from_everything
keeps_taken (also f fs) = go (is_not f) refl (keeps_others f _ _ (keeps_trans _ _ _ (keeps_taken fs) (alone_member _)))
  where
    go : (b : Bool) → is_not f ≡ b → Keeps (every_of (also f fs)) (every_of (also f (also (minus (every_of (kept fs)) (some_of (taken fs))) none)))
        → Keeps (every_of (also f fs)) (minus (every_of (cond (not b) (also f (kept fs)) (kept fs))) (some_of (cond b (also (part_of f) (taken fs)) (taken fs))))
    go true e beside =
        keeps_trans _ _ _ beside
        (subst (λ g. Keeps (every_of (also g (also (minus (every_of (kept fs)) (some_of (taken fs))) none))) (minus (every_of (kept fs)) (some_of (also (part_of f) (taken fs))))) (sym (is_not_is f e))
        (complement_beside (every_of (kept fs)) (part_of f) (taken fs)))
    go false e beside = keeps_trans _ _ _ beside (member_beside f (some_of (taken fs)) (kept fs))

keeps_distributed_join : (fs : Logics PlanAtom) → Keeps (every_of fs) (join_of (distributed fs))
keeps_distributed_join fs = keeps_trans _ _ _ (keeps_distributed fs) (keeps_join_of (distributed fs))

keeps_difference : (fs gs : Logics PlanAtom) → Keeps (minus (every_of fs) (some_of gs)) (difference_of fs gs)
keeps_difference none none = keeps_trans _ _ _ (nothing_taken (every_of none)) (keeps_distributed_join none)
keeps_difference (also f fs) none = keeps_trans _ _ _ (nothing_taken (every_of (also f fs))) (keeps_distributed_join (also f fs))
keeps_difference none (also g gs) =
    keeps_trans _ _ _ (everything_without (some_of (also g gs))) (keeps_trans _ _ _ (keeps_negation _ _ (keeps_union_of (also g gs))) (keeps_negated (union_of (also g gs))))
keeps_difference (also f fs) (also g gs) = keeps_minus _ _ _ _ (keeps_distributed_join (also f fs)) (keeps_union_of (also g gs))

keeps_joined : (fs : Logics PlanAtom) → Keeps (every_of fs) (joined fs)
keeps_joined fs = keeps_trans _ _ _ (keeps_flattened fs) (keeps_trans _ _ _ (keeps_taken (flattened fs)) (keeps_difference (kept (flattened fs)) (taken (flattened fs))))

-- ---- projections

-- the members that mention the key, as one member after the others
keeps_inside : (k : Key) (fs : Logics PlanAtom) → Keeps (every_of fs) (every_of (appended (outside k fs) (also (every_of (inside k fs)) none)))
keeps_inside k none = alone_member (every_of none)
keeps_inside k (also f fs) = go (plan_mentions f k) (keeps_others f _ _ (keeps_inside k fs))
  where
    go : (b : Bool) → Keeps (every_of (also f fs)) (every_of (also f (appended (outside k fs) (also (every_of (inside k fs)) none))))
        → Keeps (every_of (also f fs)) (every_of (appended (cond (not b) (also f (outside k fs)) (outside k fs)) (also (every_of (cond b (also f (inside k fs)) (inside k fs))) none)))
    go true here =
        keeps_trans _ _ _ here (keeps_trans _ _ _ (moved_past f (outside k fs) (also (every_of (inside k fs)) none))
        (keeps_after (outside k fs) _ _ (keeps_trans _ _ _ (keeps_others f _ _ (member_alone (every_of (inside k fs)))) (alone_member (every_of (also f (inside k fs)))))))
    go false here = here

outside_mentions : (k : Key) (fs : Logics PlanAtom) → any_mention (outside k fs) k ≡ false
outside_mentions k none = refl
outside_mentions k (also f fs) = go (plan_mentions f k) refl (outside_mentions k fs)
  where
    go : (b : Bool) → plan_mentions f k ≡ b → any_mention (outside k fs) k ≡ false → any_mention (cond (not b) (also f (outside k fs)) (outside k fs)) k ≡ false
    go true e n = n
    go false e n = ap (λ x. x || any_mention (outside k fs) k) e ∙ n

-- a projection of the last member
past_outside : (s : Sort) (k : Key) (os : Logics PlanAtom) (g : PlanForm) → any_mention os k ≡ false → Keeps (exists s k (every_of (appended os (also g none)))) (every_of (appended os (also (exists s k g) none)))
past_outside s k none g n = keeps_trans _ _ _ (keeps_exists s k _ _ (member_alone g)) (alone_member (exists s k g))
past_outside s k (also f os) g n =
    keeps_trans _ _ _ (past_member s k f (appended os (also g none)) (or_false_left _ _ n)) (keeps_others f _ _ (keeps_trans _ _ _ (member_alone _) (past_outside s k os g (or_false_right (plan_mentions f k) _ n))))

-- a projection of the first member
past_others : (s : Sort) (k : Key) (f : PlanForm) (fs : Logics PlanAtom) → any_mention fs k ≡ false → Keeps (exists s k (every_of (also f fs))) (every_of (also (exists s k f) fs))
past_others s k f fs n =
    keeps_trans _ _ _ (keeps_exists s k _ _ (keeps_trans _ _ _ (keeps_others f _ _ (alone_member (every_of fs))) (members_swapped f (every_of fs) none)))
    (keeps_trans _ _ _ (past_member s k (every_of fs) (also f none) n)
    (keeps_trans _ _ _ (keeps_others (every_of fs) _ _ (keeps_member _ _ none none (keeps_exists s k _ _ (member_alone f)) (keeps_refl (every_of none))))
    (keeps_trans _ _ _ (members_swapped (every_of fs) (exists s k f) none) (keeps_others (exists s k f) _ _ (member_alone (every_of fs))))))

none_inside : (k : Key) (fs : Logics PlanAtom) → is_none (inside k fs) ≡ true → any_mention fs k ≡ false
none_inside k none e = refl
none_inside k (also f fs) e = go (plan_mentions f k) e (none_inside k fs)
  where
    go : (b : Bool) → is_none (cond b (also f (inside k fs)) (inside k fs)) ≡ true → (is_none (inside k fs) ≡ true → any_mention fs k ≡ false) → (b || any_mention fs k) ≡ false
    go true h n = absurd (true≢false (sym h))
    go false h n = n h

-- where no member mentions the key, none is projected
none_projected : (s : Sort) (k : Key) (fs : Logics PlanAtom) → any_mention fs k ≡ false → each_projected s k fs ≡ fs
none_projected s k none n = refl
none_projected s k (also f fs) n =
    ap₂ also (ap (λ b. if b then projected_down s k f else f) (or_false_left (plan_mentions f k) _ n)) (none_projected s k fs (or_false_right (plan_mentions f k) _ n))

one_is : (f : PlanForm) (fs : Logics PlanAtom) → is_one (also f fs) ≡ true → is_none fs ≡ true
one_is f none e = refl
one_is f (also g gs) e = e

-- a plan that mentions the key, or not
keeps_choice : (s : Sort) (k : Key) (f : PlanForm) (b : Bool) → plan_mentions f k ≡ b → Keeps (exists s k f) (projected_down s k f) → Keeps (exists s k f) (cond b (projected_down s k f) f)
keeps_choice s k f true e a = a
keeps_choice s k f false e a = past_other s k f e

-- a join of which one member mentions the key
keeps_one : (s : Sort) (k : Key) (f : PlanForm) (fs : Logics PlanAtom) (b : Bool) → plan_mentions f k ≡ b → is_one (cond b (also f (inside k fs)) (inside k fs)) ≡ true → Keeps (exists s k f) (projected_down s k f)
    → (is_one (inside k fs) ≡ true → Keeps (exists s k (every_of fs)) (every_of (each_projected s k fs)))
    → Keeps (exists s k (every_of (also f fs))) (every_of (also (cond b (projected_down s k f) f) (each_projected s k fs)))
keeps_one s k f fs true e o a rest =
    let n = none_inside k fs (one_is f (inside k fs) o) in
    keeps_trans _ _ _ (past_others s k f fs n) (keeps_member _ _ _ _ a (subst (λ gs. Keeps (every_of fs) (every_of gs)) (sym (none_projected s k fs n)) (keeps_refl (every_of fs))))
keeps_one s k f fs false e o a rest = keeps_trans _ _ _ (past_member s k f fs e) (keeps_others f _ _ (keeps_trans _ _ _ (member_alone _) (rest o)))

-- any join
keeps_projected_join : (s : Sort) (k : Key) (fs one : Logics PlanAtom) → (is_one (inside k fs) ≡ true → Keeps (exists s k (every_of fs)) (every_of one)) → Keeps (exists s k (every_of fs)) (projected_join s k fs one)
keeps_projected_join s k fs one a = go (is_none (outside k fs)) (is_one (inside k fs)) refl
  where
    go : (b d : Bool) → is_one (inside k fs) ≡ d
        → Keeps (exists s k (every_of fs)) (cond b (exists s k (every_of fs)) (cond d (every_of one) (every_of (appended (outside k fs) (also (exists s k (every_of (inside k fs))) none)))))
    go true d e = keeps_refl _
    go false true e = a e
    go false false e = keeps_trans _ _ _ (keeps_exists s k _ _ (keeps_inside k fs)) (past_outside s k (outside k fs) (every_of (inside k fs)) (outside_mentions k fs))

mutual
  keeps_projected_down : (s : Sort) (k : Key) (f : PlanForm) → Keeps (exists s k f) (projected_down s k f)
  keeps_projected_down s k (some_of fs) = keeps_projected_parts s k fs
  keeps_projected_down s k (every_of fs) = keeps_projected_join s k fs (each_projected s k fs) (keeps_projected_members s k fs)
  keeps_projected_down s k (atom a) = keeps_refl (exists s k (atom a))
  keeps_projected_down s k always = keeps_refl (exists s k always)
  keeps_projected_down s k never = keeps_refl (exists s k never)
  keeps_projected_down s k (negation f) = keeps_refl (exists s k (negation f))
  keeps_projected_down s k (implies f g) = keeps_refl (exists s k (implies f g))
  keeps_projected_down s k (minus f g) = keeps_refl (exists s k (minus f g))
  keeps_projected_down s k (exists t j f) = keeps_refl (exists s k (exists t j f))
  keeps_projected_down s k (forall t j f) = keeps_refl (exists s k (forall t j f))

  keeps_projected_parts : (s : Sort) (k : Key) (fs : Logics PlanAtom) → Keeps (exists s k (some_of fs)) (some_of (each_projected s k fs))
  keeps_projected_parts s k none = past_nothing s k
  keeps_projected_parts s k (also f fs) =
      keeps_trans _ _ _ (past_union s k f fs)
      (keeps_part _ _ _ _ (keeps_choice s k f (plan_mentions f k) refl (keeps_projected_down s k f)) (keeps_trans _ _ _ (part_alone _) (keeps_projected_parts s k fs)))

  keeps_projected_members : (s : Sort) (k : Key) (fs : Logics PlanAtom) → is_one (inside k fs) ≡ true → Keeps (exists s k (every_of fs)) (every_of (each_projected s k fs))
  keeps_projected_members s k none o = absurd (true≢false (sym o))
  keeps_projected_members s k (also f fs) o = keeps_one s k f fs (plan_mentions f k) refl o (keeps_projected_down s k f) (keeps_projected_members s k fs)

keeps_projected : (s : Sort) (k : Key) (f : PlanForm) → Keeps (exists s k f) (projected s k f)
keeps_projected s k f = keeps_choice s k f (plan_mentions f k) refl (keeps_projected_down s k f)

-- ---- plans

keeps_complement : (f g : PlanForm) → Keeps f g → Keeps (negation f) (negated g)
keeps_complement f g a = keeps_trans _ _ _ (keeps_negation f g a) (keeps_negated g)

keeps_projection : (s : Sort) (k : Key) (f g : PlanForm) → Keeps f g → Keeps (exists s k f) (projected s k g)
keeps_projection s k f g a = keeps_trans _ _ _ (keeps_exists s k f g a) (keeps_projected s k g)

mutual
  -- the law
  pub keeps_rewritten : (f : PlanForm) → Keeps f (rewritten f)
  keeps_rewritten (atom a) = keeps_refl (atom a)
  keeps_rewritten always = always_is
  keeps_rewritten never = never_is
  keeps_rewritten (negation f) = keeps_complement f (rewritten f) (keeps_rewritten f)
  keeps_rewritten (every_of fs) = keeps_trans _ _ _ (keeps_every fs) (keeps_joined (each_rewritten fs))
  keeps_rewritten (some_of fs) = keeps_trans _ _ _ (keeps_some fs) (keeps_union_of (each_rewritten fs))
  keeps_rewritten (implies f g) =
      keeps_trans _ _ _ (implies_is f g)
      (keeps_part _ _ _ _ (keeps_complement f (rewritten f) (keeps_rewritten f)) (keeps_part _ _ none none (keeps_rewritten g) (keeps_refl (some_of none))))
  keeps_rewritten (minus f g) = keeps_minus _ _ _ _ (keeps_rewritten f) (keeps_rewritten g)
  keeps_rewritten (exists s k f) = keeps_projection s k f (rewritten f) (keeps_rewritten f)
  keeps_rewritten (forall s k f) =
      keeps_trans _ _ _ (forall_is s k f)
      (keeps_complement (exists s k (negation f)) _ (keeps_projection s k (negation f) (negated (rewritten f)) (keeps_complement f (rewritten f) (keeps_rewritten f))))

  keeps_every : (fs : Logics PlanAtom) → Keeps (every_of fs) (every_of (each_rewritten fs))
  keeps_every none = keeps_refl (every_of none)
  keeps_every (also f fs) = keeps_member _ _ _ _ (keeps_rewritten f) (keeps_every fs)

  keeps_some : (fs : Logics PlanAtom) → Keeps (some_of fs) (some_of (each_rewritten fs))
  keeps_some none = keeps_refl (some_of none)
  keeps_some (also f fs) = keeps_part _ _ _ _ (keeps_rewritten f) (keeps_some fs)
