-- How many members of a join mention a key, and what its projection is by that.
use Rattle.std.proofs.Common.{◌≡◌, ℕ, suc, ◌+◌, Bool, true, false, not, ◌||◌, cond, length, List, [], ◌∷◌, arith, refl, sym, ap, ◌∙◌}
use Rattle.ded_model.specs.declared.slot.Sort.{Sort}
use Rattle.ded_model.specs.declared.plan.Plan.{Plan}
use Rattle.ded_model.specs.Point.{Key}
use Rattle.ded_model.specs.Logic.{every_of, exists, Logics, none, also}
use Rattle.ded_model.specs.PlanForm.{PlanAtom, plan_forms, plan_mentions}
use Rattle.ded_model.specs.Pushed.{is_one}
use Rattle.ded_plan.specs.Rewrite.{is_none, count_of, inside, outside, projected_apart, projected_join, projected_down, each_projected, projected}

pub count_forms : (ps : List Plan) → count_of (plan_forms ps) ≡ length ps
count_forms [] = refl
count_forms (p ∷ ps) = ap suc (count_forms ps)

-- each member mentions the key or doesn't
inside_and_outside : (k : Key) (fs : Logics PlanAtom) → count_of (inside k fs) + count_of (outside k fs) ≡ count_of fs
inside_and_outside k none = refl
inside_and_outside k (also f fs) = go (plan_mentions f k) (inside_and_outside k fs)
  where
    go : (b : Bool) → count_of (inside k fs) + count_of (outside k fs) ≡ count_of fs
        → count_of (cond b (also f (inside k fs)) (inside k fs)) + count_of (cond (not b) (also f (outside k fs)) (outside k fs)) ≡ suc (count_of fs)
    go true h = omega arith
    go false h = omega arith

none_counted : (fs : Logics PlanAtom) → count_of fs ≡ 0 → is_none fs ≡ true
none_counted none h = refl
none_counted (also f fs) h = absurd (omega arith)

some_counted : (fs : Logics PlanAtom) → ¬ (count_of fs ≡ 0) → is_none fs ≡ false
some_counted none h = absurd (h refl)
some_counted (also f fs) h = refl

one_counted : (fs : Logics PlanAtom) → count_of fs ≡ 1 → is_one fs ≡ true
one_counted none h = absurd (omega arith)
one_counted (also f none) h = refl
one_counted (also f (also g fs)) h = absurd (omega arith)

not_one_counted : (fs : Logics PlanAtom) → ¬ (count_of fs ≡ 1) → is_one fs ≡ false
not_one_counted none h = refl
not_one_counted (also f none) h = absurd (h refl)
not_one_counted (also f (also g fs)) h = refl

-- no member mentions the key
none_mentions : (k : Key) (fs : Logics PlanAtom) → count_of (inside k fs) ≡ 0 → plan_mentions (every_of fs) k ≡ false
none_mentions k none h = refl
none_mentions k (also f fs) h = go (plan_mentions f k) h (none_mentions k fs)
  where
    go : (b : Bool) → count_of (cond b (also f (inside k fs)) (inside k fs)) ≡ 0 → (count_of (inside k fs) ≡ 0 → plan_mentions (every_of fs) k ≡ false) → (b || plan_mentions (every_of fs) k) ≡ false
    go true h rest = absurd (omega arith)
    go false h rest = rest h

-- one does
one_mentions : (k : Key) (fs : Logics PlanAtom) → ¬ (count_of (inside k fs) ≡ 0) → plan_mentions (every_of fs) k ≡ true
one_mentions k none h = absurd (h refl)
one_mentions k (also f fs) h = go (plan_mentions f k) h (one_mentions k fs)
  where
    go : (b : Bool) → ¬ (count_of (cond b (also f (inside k fs)) (inside k fs)) ≡ 0) → (¬ (count_of (inside k fs) ≡ 0) → plan_mentions (every_of fs) k ≡ true) → (b || plan_mentions (every_of fs) k) ≡ true
    go true h rest = refl
    go false h rest = rest h

-- what is projected of a join, by whether a member mentions the key
pub none_projected : (s : Sort) (k : Key) (fs : Logics PlanAtom) (m : ℕ) → m ≡ count_of (inside k fs) → m ≡ 0 → every_of fs ≡ projected s k (every_of fs)
none_projected s k fs m i z = ap (λ b. cond b (projected_down s k (every_of fs)) (every_of fs)) (sym (none_mentions k fs (sym i ∙ z)))

pub some_projected : (s : Sort) (k : Key) (fs : Logics PlanAtom) (m : ℕ) → m ≡ count_of (inside k fs) → ¬ (m ≡ 0) → projected_join s k fs (each_projected s k fs) ≡ projected s k (every_of fs)
some_projected s k fs m i z = ap (λ b. cond b (projected_down s k (every_of fs)) (every_of fs)) (sym (one_mentions k fs (λ o. z (i ∙ o))))

module _ (s : Sort) (k : Key) (fs one : Logics PlanAtom) (m n : ℕ) (i : m ≡ count_of (inside k fs)) (l : n ≡ count_of fs) where
  -- all do
  pub all_inside : m ≡ n → exists s k (every_of fs) ≡ projected_join s k fs one
  all_inside e =
      let h = inside_and_outside k fs in
      let o : count_of (outside k fs) ≡ 0 = omega arith in
      ap (λ b. cond b (exists s k (every_of fs)) (cond (is_one (inside k fs)) (every_of one) (projected_apart s k fs))) (sym (none_counted (outside k fs) o))

  some_outside : ¬ (m ≡ n) → cond (is_one (inside k fs)) (every_of one) (projected_apart s k fs) ≡ projected_join s k fs one
  some_outside e =
      let h = inside_and_outside k fs in
      ap (λ b. cond b (exists s k (every_of fs)) (cond (is_one (inside k fs)) (every_of one) (projected_apart s k fs))) (sym (some_counted (outside k fs) (λ o. e (omega arith))))

  -- one of several does
  pub one_inside : ¬ (m ≡ n) → m ≡ 1 → every_of one ≡ projected_join s k fs one
  one_inside e d = ap (λ b. cond b (every_of one) (projected_apart s k fs)) (sym (one_counted (inside k fs) (sym i ∙ d))) ∙ some_outside e

  -- some do
  pub some_inside : ¬ (m ≡ n) → ¬ (m ≡ 1) → projected_apart s k fs ≡ projected_join s k fs one
  some_inside e d = ap (λ b. cond b (every_of one) (projected_apart s k fs)) (sym (not_one_counted (inside k fs) (λ o. d (i ∙ o)))) ∙ some_outside e
