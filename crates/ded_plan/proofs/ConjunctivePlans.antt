-- The plan that is put in the place of a conjunctive plan is conjunctive.
--
-- No member of a conjunctive join is a complement or a union, so nothing is taken away and no rows move; and a projection only
-- stands elsewhere.
use Rattle.std.proofs.Common.{◌≡◌, Bool, true, false, not, ◌&&◌, cond, refl, sym, true≢false}
use Rattle.ded_model.specs.declared.slot.Sort.{Sort}
use Rattle.ded_model.specs.Point.{Key}
use Rattle.ded_model.specs.Logic.{atom, always, never, negation, every_of, some_of, implies, minus, exists, forall, Logics, none, also, conjunctive, all_conjunctive}
use Rattle.ded_model.specs.PlanForm.{PlanAtom, PlanForm, plan_mentions}
use Rattle.ded_model.specs.Pushed.{is_union, is_not, is_rows, some_member, is_one}
use Rattle.ded_model.proofs.Points.{and_left, and_right}
use Rattle.ded_plan.specs.Rewrite.{appended, is_none, filtered, join_of, also_all_rows, rows_of, no_rows_of, distributed, members_of, flattened, part_of, kept, taken, difference_of, joined, inside, outside, projected_join, projected_down, each_projected, projected, rewritten, each_rewritten}
use Rattle.std.proofs.lemmas.Bool.{or_from, and_from}

-- ---- members

conjunctive_appended : (fs gs : Logics PlanAtom) → all_conjunctive fs ≡ true → all_conjunctive gs ≡ true → all_conjunctive (appended fs gs) ≡ true
conjunctive_appended none gs h k = k
conjunctive_appended (also f fs) gs h k = and_from _ _ (and_left (conjunctive f) _ h) (conjunctive_appended fs gs (and_right (conjunctive f) _ h) k)

conjunctive_filtered : (keep : PlanForm → Bool) (fs : Logics PlanAtom) → all_conjunctive fs ≡ true → all_conjunctive (filtered keep fs) ≡ true
conjunctive_filtered keep none h = h
conjunctive_filtered keep (also f fs) h = go (keep f) (conjunctive_filtered keep fs (and_right (conjunctive f) _ h))
  where
    go : (b : Bool) → all_conjunctive (filtered keep fs) ≡ true → all_conjunctive (cond b (also f (filtered keep fs)) (filtered keep fs)) ≡ true
    go true e = and_from _ _ (and_left (conjunctive f) _ h) e
    go false e = e

conjunctive_join_of : (fs : Logics PlanAtom) → all_conjunctive fs ≡ true → conjunctive (join_of fs) ≡ true
conjunctive_join_of none h = refl
conjunctive_join_of (also f none) h = and_left (conjunctive f) true h
conjunctive_join_of (also f (also g gs)) h = h

-- ---- joins

conjunctive_members : (f : PlanForm) → conjunctive f ≡ true → all_conjunctive (members_of f) ≡ true
conjunctive_members (atom a) h = and_from _ _ h refl
conjunctive_members always h = and_from _ _ h refl
conjunctive_members never h = absurd (true≢false (sym h))
conjunctive_members (negation f) h = absurd (true≢false (sym h))
conjunctive_members (every_of fs) h = h
conjunctive_members (some_of fs) h = absurd (true≢false (sym h))
conjunctive_members (implies f g) h = absurd (true≢false (sym h))
conjunctive_members (minus f g) h = absurd (true≢false (sym h))
conjunctive_members (exists s k f) h = and_from _ _ h refl
conjunctive_members (forall s k f) h = absurd (true≢false (sym h))

conjunctive_flattened : (fs : Logics PlanAtom) → all_conjunctive fs ≡ true → all_conjunctive (flattened fs) ≡ true
conjunctive_flattened none h = refl
conjunctive_flattened (also f fs) h =
    conjunctive_appended (members_of f) (flattened fs) (conjunctive_members f (and_left (conjunctive f) _ h)) (conjunctive_flattened fs (and_right (conjunctive f) _ h))

no_complement : (f : PlanForm) → conjunctive f ≡ true → is_not f ≡ false
no_complement (atom a) h = refl
no_complement always h = refl
no_complement never h = absurd (true≢false (sym h))
no_complement (negation f) h = absurd (true≢false (sym h))
no_complement (every_of fs) h = refl
no_complement (some_of fs) h = absurd (true≢false (sym h))
no_complement (implies f g) h = absurd (true≢false (sym h))
no_complement (minus f g) h = absurd (true≢false (sym h))
no_complement (exists s k f) h = refl
no_complement (forall s k f) h = absurd (true≢false (sym h))

no_union : (f : PlanForm) → conjunctive f ≡ true → is_union f ≡ false
no_union (atom a) h = refl
no_union always h = refl
no_union never h = absurd (true≢false (sym h))
no_union (negation f) h = absurd (true≢false (sym h))
no_union (every_of fs) h = refl
no_union (some_of fs) h = absurd (true≢false (sym h))
no_union (implies f g) h = absurd (true≢false (sym h))
no_union (minus f g) h = absurd (true≢false (sym h))
no_union (exists s k f) h = refl
no_union (forall s k f) h = absurd (true≢false (sym h))

nothing_taken : (fs : Logics PlanAtom) → all_conjunctive fs ≡ true → is_none (taken fs) ≡ true
nothing_taken none h = refl
nothing_taken (also f fs) h = go (is_not f) (no_complement f (and_left (conjunctive f) _ h)) (nothing_taken fs (and_right (conjunctive f) _ h))
  where
    go : (b : Bool) → b ≡ false → is_none (taken fs) ≡ true → is_none (cond b (also (part_of f) (taken fs)) (taken fs)) ≡ true
    go true e r = absurd (true≢false e)
    go false e r = r

no_unions : (fs : Logics PlanAtom) → all_conjunctive fs ≡ true → some_member is_union fs ≡ false
no_unions none h = refl
no_unions (also f fs) h = or_from _ _ (no_union f (and_left (conjunctive f) _ h)) (no_unions fs (and_right (conjunctive f) _ h))

conjunctive_distributed : (fs : Logics PlanAtom) → all_conjunctive fs ≡ true → all_conjunctive (distributed fs) ≡ true
conjunctive_distributed fs h = go (some_member is_rows fs) (some_member is_union fs) (no_unions fs h)
  where
    go : (a b : Bool) → b ≡ false → all_conjunctive (cond (a && b) (also_all_rows (rows_of fs) (no_rows_of fs)) fs) ≡ true
    go a true e = absurd (true≢false e)
    go true false e = h
    go false false e = h

conjunctive_difference : (fs gs : Logics PlanAtom) → all_conjunctive fs ≡ true → is_none gs ≡ true → conjunctive (difference_of fs gs) ≡ true
conjunctive_difference none none h e = refl
conjunctive_difference (also f fs) none h e = conjunctive_join_of (distributed (also f fs)) (conjunctive_distributed (also f fs) h)
conjunctive_difference none (also g gs) h e = absurd (true≢false (sym e))
conjunctive_difference (also f fs) (also g gs) h e = absurd (true≢false (sym e))

conjunctive_joined : (fs : Logics PlanAtom) → all_conjunctive fs ≡ true → conjunctive (joined fs) ≡ true
conjunctive_joined fs h =
    let c = conjunctive_flattened fs h in
    conjunctive_difference (kept (flattened fs)) (taken (flattened fs)) (conjunctive_filtered (λ f. not (is_not f)) (flattened fs) c) (nothing_taken (flattened fs) c)

-- ---- projections

conjunctive_projected_join : (s : Sort) (k : Key) (fs one : Logics PlanAtom) → all_conjunctive fs ≡ true → all_conjunctive one ≡ true → conjunctive (projected_join s k fs one) ≡ true
conjunctive_projected_join s k fs one h i = go (is_none (outside k fs)) (is_one (inside k fs))
  where
    go : (b d : Bool) → conjunctive (cond b (exists s k (every_of fs)) (cond d (every_of one) (every_of (appended (outside k fs) (also (exists s k (every_of (inside k fs))) none))))) ≡ true
    go true d = h
    go false true = i
    go false false =
        conjunctive_appended (outside k fs) (also (exists s k (every_of (inside k fs))) none) (conjunctive_filtered (λ f. not (plan_mentions f k)) fs h)
        (and_from _ _ (conjunctive_filtered (λ f. plan_mentions f k) fs h) refl)

-- a plan that mentions the key, or not
conjunctive_choice : (s : Sort) (k : Key) (f : PlanForm) (b : Bool) → conjunctive f ≡ true → conjunctive (projected_down s k f) ≡ true → conjunctive (cond b (projected_down s k f) f) ≡ true
conjunctive_choice s k f true h i = i
conjunctive_choice s k f false h i = h

mutual
  conjunctive_projected_down : (s : Sort) (k : Key) (f : PlanForm) → conjunctive f ≡ true → conjunctive (projected_down s k f) ≡ true
  conjunctive_projected_down s k (atom a) h = h
  conjunctive_projected_down s k always h = h
  conjunctive_projected_down s k never h = absurd (true≢false (sym h))
  conjunctive_projected_down s k (negation f) h = absurd (true≢false (sym h))
  conjunctive_projected_down s k (every_of fs) h = conjunctive_projected_join s k fs (each_projected s k fs) h (conjunctive_each_projected s k fs h)
  conjunctive_projected_down s k (some_of fs) h = absurd (true≢false (sym h))
  conjunctive_projected_down s k (implies f g) h = absurd (true≢false (sym h))
  conjunctive_projected_down s k (minus f g) h = absurd (true≢false (sym h))
  conjunctive_projected_down s k (exists t j f) h = h
  conjunctive_projected_down s k (forall t j f) h = absurd (true≢false (sym h))

  conjunctive_each_projected : (s : Sort) (k : Key) (fs : Logics PlanAtom) → all_conjunctive fs ≡ true → all_conjunctive (each_projected s k fs) ≡ true
  conjunctive_each_projected s k none h = refl
  conjunctive_each_projected s k (also f fs) h =
      let c = and_left (conjunctive f) _ h in
      and_from _ _ (conjunctive_choice s k f (plan_mentions f k) c (conjunctive_projected_down s k f c)) (conjunctive_each_projected s k fs (and_right (conjunctive f) _ h))

conjunctive_projected : (s : Sort) (k : Key) (f : PlanForm) → conjunctive f ≡ true → conjunctive (projected s k f) ≡ true
conjunctive_projected s k f h = conjunctive_choice s k f (plan_mentions f k) h (conjunctive_projected_down s k f h)

-- ---- plans

mutual
  -- the law
  pub conjunctive_rewritten : (f : PlanForm) → conjunctive f ≡ true → conjunctive (rewritten f) ≡ true
  conjunctive_rewritten (atom a) h = refl
  conjunctive_rewritten always h = refl
  conjunctive_rewritten never h = absurd (true≢false (sym h))
  conjunctive_rewritten (negation f) h = absurd (true≢false (sym h))
  conjunctive_rewritten (every_of fs) h = conjunctive_joined (each_rewritten fs) (conjunctive_each_rewritten fs h)
  conjunctive_rewritten (some_of fs) h = absurd (true≢false (sym h))
  conjunctive_rewritten (implies f g) h = absurd (true≢false (sym h))
  conjunctive_rewritten (minus f g) h = absurd (true≢false (sym h))
  conjunctive_rewritten (exists s k f) h = conjunctive_projected s k (rewritten f) (conjunctive_rewritten f h)
  conjunctive_rewritten (forall s k f) h = absurd (true≢false (sym h))

  conjunctive_each_rewritten : (fs : Logics PlanAtom) → all_conjunctive fs ≡ true → all_conjunctive (each_rewritten fs) ≡ true
  conjunctive_each_rewritten none h = refl
  conjunctive_each_rewritten (also f fs) h = and_from _ _ (conjunctive_rewritten f (and_left (conjunctive f) _ h)) (conjunctive_each_rewritten fs (and_right (conjunctive f) _ h))
