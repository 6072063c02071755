-- The plan that is put in the place of a plan is pushed.
--
-- A projection of a pushed plan goes down to the plans that mention its key and are no unions. It makes of a member of a join no
-- join, no complement, and neither rows nor a union that were none before.
use Rattle.std.proofs.Common.{◌≡◌, Bool, true, false, not, ◌&&◌, ◌||◌, cond, refl, sym, ap, ◌∙◌, true≢false}
use Rattle.ded_model.specs.declared.slot.Sort.{Sort}
use Rattle.ded_model.specs.Point.{Key}
use Rattle.ded_model.specs.Logic.{atom, always, never, negation, every_of, some_of, implies, minus, exists, forall, Logics, none, also}
use Rattle.ded_model.specs.PlanForm.{PlanAtom, PlanForm, plan_mentions}
use Rattle.ded_model.specs.Pushed.{is_union, is_join, is_not, is_rows, some_member, every_member, is_one, pushed, all_pushed}
use Rattle.ded_model.proofs.Points.{and_left, and_right}
use Rattle.ded_plan.specs.Rewrite.{appended, is_none, filtered, negated, inside, outside, projected_join, projected_down, each_projected, projected, rewritten, each_rewritten}
use Rattle.ded_plan.proofs.Keeps.{any_mention}
use Rattle.ded_plan.proofs.BothTests.{apart_still}
use Rattle.ded_plan.proofs.PushedJoins.{some_appended, pushed_appended, some_filtered, pushed_filtered, every_filtered, AreMembers, pushed_join, pushed_members, pushed_not_one, pushed_union_of, pushed_negated, pushed_joined}
use Rattle.std.proofs.lemmas.Bool.{or_from, and_from}
use Rattle.ded_model.proofs.Bools.{or_false_left, or_false_right}

-- ---- members that are projected

one_projected : (s : Sort) (k : Key) (fs : Logics PlanAtom) → is_one (each_projected s k fs) ≡ is_one fs
one_projected s k none = refl
one_projected s k (also f none) = refl
one_projected s k (also f (also g gs)) = refl

down_no_join : (s : Sort) (k : Key) (f : PlanForm) → is_join f ≡ false → is_join (projected_down s k f) ≡ false
down_no_join s k (atom a) h = refl
down_no_join s k always h = refl
down_no_join s k never h = refl
down_no_join s k (negation f) h = refl
down_no_join s k (every_of fs) h = absurd (true≢false h)
down_no_join s k (some_of fs) h = refl
down_no_join s k (implies f g) h = refl
down_no_join s k (minus f g) h = refl
down_no_join s k (exists t j f) h = refl
down_no_join s k (forall t j f) h = refl

down_no_not : (s : Sort) (k : Key) (f : PlanForm) → is_join f ≡ false → is_not (projected_down s k f) ≡ false
down_no_not s k (atom a) h = refl
down_no_not s k always h = refl
down_no_not s k never h = refl
down_no_not s k (negation f) h = refl
down_no_not s k (every_of fs) h = absurd (true≢false h)
down_no_not s k (some_of fs) h = refl
down_no_not s k (implies f g) h = refl
down_no_not s k (minus f g) h = refl
down_no_not s k (exists t j f) h = refl
down_no_not s k (forall t j f) h = refl

down_no_rows : (s : Sort) (k : Key) (f : PlanForm) → is_join f ≡ false → is_rows (projected_down s k f) ≡ false
down_no_rows s k (atom a) h = refl
down_no_rows s k always h = refl
down_no_rows s k never h = refl
down_no_rows s k (negation f) h = refl
down_no_rows s k (every_of fs) h = absurd (true≢false h)
down_no_rows s k (some_of fs) h = refl
down_no_rows s k (implies f g) h = refl
down_no_rows s k (minus f g) h = refl
down_no_rows s k (exists t j f) h = refl
down_no_rows s k (forall t j f) h = refl

down_no_union : (s : Sort) (k : Key) (f : PlanForm) → is_join f ≡ false → is_union f ≡ false → is_union (projected_down s k f) ≡ false
down_no_union s k (atom a) h e = refl
down_no_union s k always h e = refl
down_no_union s k never h e = refl
down_no_union s k (negation f) h e = refl
down_no_union s k (every_of fs) h e = absurd (true≢false h)
down_no_union s k (some_of fs) h e = absurd (true≢false e)
down_no_union s k (implies f g) h e = refl
down_no_union s k (minus f g) h e = refl
down_no_union s k (exists t j f) h e = refl
down_no_union s k (forall t j f) h e = refl

-- what no member is, none becomes
none_becomes : (test : PlanForm → Bool) → ((s : Sort) (k : Key) (f : PlanForm) → is_join f ≡ false → test f ≡ false → test (projected_down s k f) ≡ false)
    → (s : Sort) (k : Key) (fs : Logics PlanAtom) → some_member is_join fs ≡ false → some_member test fs ≡ false → some_member test (each_projected s k fs) ≡ false
none_becomes test stays s k none j h = refl
none_becomes test stays s k (also f fs) j h =
    or_from _ _ (go (plan_mentions f k)) (none_becomes test stays s k fs (or_false_right (is_join f) _ j) (or_false_right (test f) _ h))
  where
    go : (b : Bool) → test (cond b (projected_down s k f) f) ≡ false
    go true = stays s k f (or_false_left (is_join f) _ j) (or_false_left (test f) _ h)
    go false = or_false_left (test f) _ h

apart_projected : (s : Sort) (k : Key) (fs : Logics PlanAtom) → some_member is_join fs ≡ false → (some_member is_rows fs && some_member is_union fs) ≡ false
    → (some_member is_rows (each_projected s k fs) && some_member is_union (each_projected s k fs)) ≡ false
apart_projected s k fs j h =
    apart_still _ _ _ _ (none_becomes is_rows (λ s k f i e. down_no_rows s k f i) s k fs j) (none_becomes is_union down_no_union s k fs j) h

-- ---- joins

-- the members that don't mention the key, where there are none
none_outside : (k : Key) (fs : Logics PlanAtom) → is_none (outside k fs) ≡ true → every_member (λ f. plan_mentions f k) fs ≡ true
none_outside k none e = refl
none_outside k (also f fs) e = go (plan_mentions f k) refl e (none_outside k fs)
  where
    go : (b : Bool) → plan_mentions f k ≡ b → is_none (cond (not b) (also f (outside k fs)) (outside k fs)) ≡ true → (is_none (outside k fs) ≡ true → every_member (λ g. plan_mentions g k) fs ≡ true)
        → every_member (λ g. plan_mentions g k) (also f fs) ≡ true
    go true m h rest = and_from _ _ m (rest h)
    go false m h rest = absurd (true≢false (sym h))

inside_mentions : (k : Key) (fs : Logics PlanAtom) → any_mention fs k ≡ true → any_mention (inside k fs) k ≡ true
inside_mentions k none m = m
inside_mentions k (also f fs) m = go (plan_mentions f k) refl m (inside_mentions k fs)
  where
    go : (b : Bool) → plan_mentions f k ≡ b → (b || any_mention fs k) ≡ true → (any_mention fs k ≡ true → any_mention (inside k fs) k ≡ true) → any_mention (cond b (also f (inside k fs)) (inside k fs)) k ≡ true
    go true e h rest = ap (λ x. x || any_mention (inside k fs) k) e
    go false e h rest = rest h

-- one member after others isn't alone
not_alone : (os : Logics PlanAtom) (f : PlanForm) → is_none os ≡ false → is_one (appended os (also f none)) ≡ false
not_alone none f e = absurd (true≢false e)
not_alone (also g none) f e = refl
not_alone (also g (also h os)) f e = refl

filtered_members : (keep : PlanForm → Bool) (fs : Logics PlanAtom) → AreMembers fs → AreMembers (filtered keep fs)
filtered_members keep fs m = record {
  joins = some_filtered is_join keep fs m.joins;
  apart = apart_still _ _ _ _ (some_filtered is_rows keep fs) (some_filtered is_union keep fs) m.apart;
  nots = some_filtered is_not keep fs m.nots;
  pushed = pushed_filtered keep fs m.pushed;
}

-- a projection after other members
projection_after : (os : Logics PlanAtom) (s : Sort) (k : Key) (f : PlanForm) → is_none os ≡ false → AreMembers os → pushed (exists s k f) ≡ true → pushed (every_of (appended os (also (exists s k f) none))) ≡ true
projection_after os s k f e m h = pushed_join (appended os (also (exists s k f) none)) (not_alone os (exists s k f) e) (record {
  joins = some_appended is_join os (also (exists s k f) none) m.joins refl;
  apart = apart_still _ _ _ _ (λ e. some_appended is_rows os (also (exists s k f) none) e refl) (λ e. some_appended is_union os (also (exists s k f) none) e refl) m.apart;
  nots = some_appended is_not os (also (exists s k f) none) m.nots refl;
  pushed = pushed_appended os (also (exists s k f) none) m.pushed (and_from _ _ h refl);
})

pushed_projected_join : (s : Sort) (k : Key) (fs : Logics PlanAtom) → pushed (every_of fs) ≡ true → plan_mentions (every_of fs) k ≡ true → all_pushed (each_projected s k fs) ≡ true → pushed (projected_join s k fs (each_projected s k fs)) ≡ true
pushed_projected_join s k fs h m each = go (is_none (outside k fs)) (is_one (inside k fs)) refl refl
  where
    are : AreMembers fs
    are = pushed_members fs h

    go : (b d : Bool) → is_none (outside k fs) ≡ b → is_one (inside k fs) ≡ d
        → pushed (cond b (exists s k (every_of fs)) (cond d (every_of (each_projected s k fs)) (every_of (appended (outside k fs) (also (exists s k (every_of (inside k fs))) none))))) ≡ true
    go true d e i = and_from _ _ (and_from _ _ m (none_outside k fs e)) h
    go false true e i = pushed_join (each_projected s k fs) (one_projected s k fs ∙ pushed_not_one fs h) (record {
      joins = none_becomes is_join (λ s k f j e. down_no_join s k f j) s k fs are.joins are.joins;
      apart = apart_projected s k fs are.joins are.apart;
      nots = none_becomes is_not (λ s k f j e. down_no_not s k f j) s k fs are.joins are.nots;
      pushed = each;
    })
    go false false e i =
        projection_after (outside k fs) s k (every_of (inside k fs)) e (filtered_members (λ f. not (plan_mentions f k)) fs are)
        (and_from _ _ (and_from _ _ (inside_mentions k fs m) (every_filtered (λ f. plan_mentions f k) fs)) (pushed_join (inside k fs) i (filtered_members (λ f. plan_mentions f k) fs are)))

-- ---- projections

-- a plan that mentions the key, or not
pushed_choice : (s : Sort) (k : Key) (f : PlanForm) (b : Bool) → plan_mentions f k ≡ b → pushed f ≡ true → (plan_mentions f k ≡ true → pushed f ≡ true → pushed (projected_down s k f) ≡ true)
    → pushed (cond b (projected_down s k f) f) ≡ true
pushed_choice s k f true e h a = a e h
pushed_choice s k f false e h a = h

mutual
  pushed_projected_down : (s : Sort) (k : Key) (f : PlanForm) → plan_mentions f k ≡ true → pushed f ≡ true → pushed (projected_down s k f) ≡ true
  pushed_projected_down s k (atom a) m h = and_from _ _ m h
  pushed_projected_down s k always m h = absurd (true≢false (sym h))
  pushed_projected_down s k never m h = absurd (true≢false (sym h))
  pushed_projected_down s k (negation f) m h = and_from _ _ m h
  pushed_projected_down s k (every_of fs) m h = pushed_projected_join s k fs h m (pushed_each_projected s k fs (pushed_members fs h).pushed)
  pushed_projected_down s k (some_of fs) m h = and_from _ _ (ap not (one_projected s k fs) ∙ and_left (not (is_one fs)) _ h) (pushed_each_projected s k fs (and_right (not (is_one fs)) _ h))
  pushed_projected_down s k (implies f g) m h = absurd (true≢false (sym h))
  pushed_projected_down s k (minus f g) m h = and_from _ _ m h
  pushed_projected_down s k (exists t j f) m h = and_from _ _ m h
  pushed_projected_down s k (forall t j f) m h = absurd (true≢false (sym h))

  pushed_each_projected : (s : Sort) (k : Key) (fs : Logics PlanAtom) → all_pushed fs ≡ true → all_pushed (each_projected s k fs) ≡ true
  pushed_each_projected s k none h = refl
  pushed_each_projected s k (also f fs) h =
      and_from _ _ (pushed_choice s k f (plan_mentions f k) refl (and_left (pushed f) _ h) (pushed_projected_down s k f)) (pushed_each_projected s k fs (and_right (pushed f) _ h))

pushed_projected : (s : Sort) (k : Key) (f : PlanForm) → pushed f ≡ true → pushed (projected s k f) ≡ true
pushed_projected s k f h = pushed_choice s k f (plan_mentions f k) refl h (pushed_projected_down s k f)

-- ---- plans

mutual
  -- the law
  pub pushed_rewritten : (f : PlanForm) → pushed (rewritten f) ≡ true
  pushed_rewritten (atom a) = refl
  pushed_rewritten always = refl
  pushed_rewritten never = refl
  pushed_rewritten (negation f) = pushed_negated (rewritten f) (pushed_rewritten f)
  pushed_rewritten (every_of fs) = pushed_joined (each_rewritten fs) (pushed_each_rewritten fs)
  pushed_rewritten (some_of fs) = pushed_union_of (each_rewritten fs) (pushed_each_rewritten fs)
  pushed_rewritten (implies f g) = and_from _ _ (pushed_negated (rewritten f) (pushed_rewritten f)) (and_from _ _ (pushed_rewritten g) refl)
  pushed_rewritten (minus f g) = and_from _ _ (pushed_rewritten f) (pushed_rewritten g)
  pushed_rewritten (exists s k f) = pushed_projected s k (rewritten f) (pushed_rewritten f)
  pushed_rewritten (forall s k f) = pushed_negated (projected s k (negated (rewritten f))) (pushed_projected s k (negated (rewritten f)) (pushed_negated (rewritten f) (pushed_rewritten f)))

  pushed_each_rewritten : (fs : Logics PlanAtom) → all_pushed (each_rewritten fs) ≡ true
  pushed_each_rewritten none = refl
  pushed_each_rewritten (also f fs) = and_from _ _ (pushed_rewritten f) (pushed_each_rewritten fs)
