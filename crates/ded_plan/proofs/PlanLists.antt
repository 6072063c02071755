-- Lists of plans as members: what a list built plan after plan stands for.
use Rattle.std.specs.Prelude.{◌==◌}
use Rattle.std.proofs.Common.{◌≡◌, ℕ, Bool, true, false, not, cond, length, List, [], ◌∷◌, ◌++◌, refl, sym, ap, ap₂, ◌∙◌, map, true≢false}
use Rattle.ded_num.proofs.Tests.{not_zero}
use Rattle.ded_model.specs.declared.plan.Plan.{Plan}
use Rattle.ded_model.specs.Logic.{atom, always, never, negation, every_of, some_of, implies, minus, exists, forall, Logics, none, also}
use Rattle.ded_model.specs.PlanForm.{PlanAtom, PlanForm, plan_form, plan_forms}
use Rattle.ded_model.specs.Pushed.{is_join, is_not, some_member}
use Rattle.ded_model.proofs.Bools.{or_false_left, or_false_right}
use Rattle.ded_plan.specs.Rewrite.{appended, filtered, join_of, union_of, negated, distributed, members_of, comes_apart, flattened, part_of, kept, taken, difference_of, joined}

pub appended_none : (fs : Logics PlanAtom) → appended fs none ≡ fs
appended_none none = refl
appended_none (also f fs) = ap (also f) (appended_none fs)

-- one plan more at the end
pub appended_last : (ps : List Plan) (p : Plan) (fs : Logics PlanAtom) → appended (plan_forms (ps ++ p ∷ [])) fs ≡ appended (plan_forms ps) (also (plan_form p) fs)
appended_last [] p fs = refl
appended_last (q ∷ ps) p fs = ap (also (plan_form q)) (appended_last ps p fs)

-- the plans of one list after those of another
pub appended_lists : (ps qs : List Plan) (fs : Logics PlanAtom) → appended (plan_forms (ps ++ qs)) fs ≡ appended (plan_forms ps) (appended (plan_forms qs) fs)
appended_lists [] qs fs = refl
appended_lists (p ∷ ps) qs fs = ap (also (plan_form p)) (appended_lists ps qs fs)

-- the plans that were made of those so far, whatever plans follow: what stands for them is F of them
pub record AreMade (F : Logics PlanAtom → Logics PlanAtom) (from made : List Plan) : Type 0 where
  pub are : (fs : Logics PlanAtom) → appended (plan_forms made) (F fs) ≡ F (appended (plan_forms from) fs)

pub made_none : (F : Logics PlanAtom → Logics PlanAtom) → AreMade F [] []
made_none F = record { are = λ fs. refl }

-- one plan more, of one
pub made_one : (F : Logics PlanAtom → Logics PlanAtom) (ps qs rs : List Plan) (p q : Plan) → ((fs : Logics PlanAtom) → F (also (plan_form p) fs) ≡ also (plan_form q) (F fs)) → rs ≡ qs ++ q ∷ [] → AreMade F ps qs → AreMade F (ps ++ p ∷ []) rs
made_one F ps qs rs p q e r m = record {
  are = λ fs. ap (λ xs. appended (plan_forms xs) (F fs)) r ∙ appended_last qs q (F fs) ∙ ap (appended (plan_forms qs)) (sym (e fs)) ∙ m.are (also (plan_form p) fs) ∙ ap F (sym (appended_last ps p fs));
}

-- no plan more
pub made_same : (F : Logics PlanAtom → Logics PlanAtom) (ps qs : List Plan) (p : Plan) → ((fs : Logics PlanAtom) → F (also (plan_form p) fs) ≡ F fs) → AreMade F ps qs → AreMade F (ps ++ p ∷ []) qs
made_same F ps qs p e m = record { are = λ fs. ap (appended (plan_forms qs)) (sym (e fs)) ∙ m.are (also (plan_form p) fs) ∙ ap F (sym (appended_last ps p fs)) }

-- several plans more
pub made_more : (F : Logics PlanAtom → Logics PlanAtom) (ps qs rs ss : List Plan) (p : Plan) → ((fs : Logics PlanAtom) → F (also (plan_form p) fs) ≡ appended (plan_forms ss) (F fs)) → rs ≡ qs ++ ss → AreMade F ps qs
    → AreMade F (ps ++ p ∷ []) rs
made_more F ps qs rs ss p e r m = record {
  are = λ fs. ap (λ xs. appended (plan_forms xs) (F fs)) r ∙ appended_lists qs ss (F fs) ∙ ap (appended (plan_forms qs)) (sym (e fs)) ∙ m.are (also (plan_form p) fs) ∙ ap F (sym (appended_last ps p fs));
}

-- at the end
pub made_all : (F : Logics PlanAtom → Logics PlanAtom) → F none ≡ none → (ps qs : List Plan) → AreMade F ps qs → plan_forms qs ≡ F (plan_forms ps)
made_all F e ps qs m = sym (appended_none (plan_forms qs)) ∙ ap (appended (plan_forms qs)) (sym e) ∙ m.are none ∙ ap F (appended_none (plan_forms ps))

-- a plan that is no join is a member by itself
pub members_of_other : (f : PlanForm) → is_join f ≡ false → members_of f ≡ also f none
members_of_other (atom a) e = refl
members_of_other always e = refl
members_of_other never e = refl
members_of_other (negation f) e = refl
members_of_other (every_of fs) e = absurd (true≢false e)
members_of_other (some_of fs) e = refl
members_of_other (implies f g) e = refl
members_of_other (minus f g) e = refl
members_of_other (exists s k f) e = refl
members_of_other (forall s k f) e = refl

pub flattened_join : (f : PlanForm) (gs fs : Logics PlanAtom) → f ≡ every_of gs → flattened (also f fs) ≡ appended gs (flattened fs)
flattened_join f gs fs e = ap (λ g. flattened (also g fs)) e

pub flattened_other : (f : PlanForm) (fs : Logics PlanAtom) → is_join f ≡ false → flattened (also f fs) ≡ also f (flattened fs)
flattened_other f fs e = ap (λ ms. appended ms (flattened fs)) (members_of_other f e)

pub map-id : (zs : List Plan) → map (λ y. y) zs ≡ zs
map-id [] = refl
map-id (z ∷ zs) = ap (λ ws. z ∷ ws) (map-id zs)

-- of all plans that an iterator yields
pub made_yielded : (F : Logics PlanAtom → Logics PlanAtom) → F none ≡ none → (ps qs xs : List Plan) → map (λ y. y) ps ≡ xs → AreMade F ps qs → plan_forms qs ≡ F (plan_forms xs)
made_yielded F e ps qs xs y m = made_all F e ps qs m ∙ ap (λ zs. F (plan_forms zs)) (sym (map-id ps) ∙ y)

-- ---- lists of one plan

pub only_part : (ps : List Plan) → ¬ (length ps ≡ 1) → some_of (plan_forms ps) ≡ union_of (plan_forms ps)
only_part [] h = refl
only_part (p ∷ []) h = absurd (h refl)
only_part (p ∷ q ∷ ps) h = refl

pub only_member : (ps : List Plan) → ¬ (length ps ≡ 1) → every_of (plan_forms ps) ≡ join_of (plan_forms ps)
only_member [] h = refl
only_member (p ∷ []) h = absurd (h refl)
only_member (p ∷ q ∷ ps) h = refl

-- ---- members that pass a test

pub filtered_kept : (test : PlanForm → Bool) (f : PlanForm) (fs : Logics PlanAtom) → test f ≡ true → filtered test (also f fs) ≡ also f (filtered test fs)
filtered_kept test f fs e = ap (λ b. cond b (also f (filtered test fs)) (filtered test fs)) e

pub filtered_dropped : (test : PlanForm → Bool) (f : PlanForm) (fs : Logics PlanAtom) → test f ≡ false → filtered test (also f fs) ≡ filtered test fs
filtered_dropped test f fs e = ap (λ b. cond b (also f (filtered test fs)) (filtered test fs)) e

-- ---- complements among the members

pub taken_more : (f g : PlanForm) (fs : Logics PlanAtom) → f ≡ negation g → taken (also f fs) ≡ also g (taken fs)
taken_more f g fs e = ap (λ h. taken (also h fs)) e

pub taken_same : (f : PlanForm) (fs : Logics PlanAtom) → is_not f ≡ false → taken (also f fs) ≡ taken fs
taken_same f fs e = ap (λ b. cond b (also (part_of f) (taken fs)) (taken fs)) e

-- something is taken away, from nothing or from something
pub taken_from_none : (ks ts : List Plan) (m n : ℕ) → m ≡ length ks → n ≡ length ts → true ≡ (m == 0) → false ≡ (n == 0) → negated (union_of (plan_forms ts)) ≡ difference_of (plan_forms ks) (plan_forms ts)
taken_from_none ks [] m n k t e d = absurd (true≢false (sym (d ∙ ap (λ i. i == 0) t)))
taken_from_none [] (p ∷ ts) m n k t e d = refl
taken_from_none (q ∷ ks) (p ∷ ts) m n k t e d = absurd (true≢false (e ∙ ap (λ i. i == 0) k ∙ not_zero (length ks)))

pub taken_from_some : (ks ts : List Plan) (m n : ℕ) → m ≡ length ks → n ≡ length ts → false ≡ (m == 0) → false ≡ (n == 0)
    → minus (join_of (distributed (plan_forms ks))) (union_of (plan_forms ts)) ≡ difference_of (plan_forms ks) (plan_forms ts)
taken_from_some ks [] m n k t e d = absurd (true≢false (sym (d ∙ ap (λ i. i == 0) t)))
taken_from_some [] (p ∷ ts) m n k t e d = absurd (true≢false (sym (e ∙ ap (λ i. i == 0) k)))
taken_from_some (q ∷ ks) (p ∷ ts) m n k t e d = refl

-- ---- members of which none comes apart

flattened_whole : (fs : Logics PlanAtom) → some_member comes_apart fs ≡ false → flattened fs ≡ fs
flattened_whole none h = refl
flattened_whole (also f fs) h =
    flattened_other f fs (or_false_left (is_join f) (is_not f) (or_false_left (comes_apart f) _ h)) ∙ ap (also f) (flattened_whole fs (or_false_right (comes_apart f) _ h))

kept_whole : (fs : Logics PlanAtom) → some_member comes_apart fs ≡ false → kept fs ≡ fs
kept_whole none h = refl
kept_whole (also f fs) h =
    filtered_kept (λ g. not (is_not g)) f fs (ap not (or_false_right (is_join f) (is_not f) (or_false_left (comes_apart f) _ h))) ∙ ap (also f) (kept_whole fs (or_false_right (comes_apart f) _ h))

taken_whole : (fs : Logics PlanAtom) → some_member comes_apart fs ≡ false → taken fs ≡ none
taken_whole none h = refl
taken_whole (also f fs) h = taken_same f fs (or_false_right (is_join f) (is_not f) (or_false_left (comes_apart f) _ h)) ∙ taken_whole fs (or_false_right (comes_apart f) _ h)

-- their join has them as they are
pub joined_whole : (fs : Logics PlanAtom) → some_member comes_apart fs ≡ false → join_of (distributed fs) ≡ joined fs
joined_whole fs h =
    sym (ap (λ gs. difference_of (kept gs) (taken gs)) (flattened_whole fs h) ∙ ap₂ difference_of (kept_whole fs h) (taken_whole fs h))
