-- Lists of plans as the members of a join, with rows put into a union among them.
use Rattle.std.proofs.Common.{◌≡◌, Bool, true, false, ◌&&◌, ◌⊎◌, inl, inr, cond, List, [], ◌∷◌, ◌++◌, refl, sym, ap, ◌∙◌, map, true≢false}
use Rattle.ded_model.specs.declared.plan.Plan.{Plan}
use Rattle.ded_model.specs.Row.{Atom}
use Rattle.ded_model.specs.Logic.{atom, Logics, none, also}
use Rattle.ded_model.specs.PlanForm.{PlanAtom, rows, PlanForm, plan_form, plan_forms}
use Rattle.ded_model.specs.Pushed.{is_union, is_rows, some_member}
use Rattle.ded_plan.specs.Rewrite.{appended, with_rows, also_rows, also_all_rows, atoms_of, rows_of, no_rows_of, distributed}
use Rattle.ded_plan.proofs.PlanLists.{appended_none, appended_last, map-id}
use Rattle.std.proofs.lemmas.Bool.{and_from}

-- ---- rows put into the first union

with_union : (t : List Atom) (f : PlanForm) (fs : Logics PlanAtom) → is_union f ≡ true → also_rows t (also f fs) ≡ also (with_rows t f) fs
with_union t f fs e = ap (λ b. cond b (also (with_rows t f) fs) (also f (also_rows t fs))) e

with_other : (t : List Atom) (f : PlanForm) (fs : Logics PlanAtom) → is_union f ≡ false → also_rows t (also f fs) ≡ also f (also_rows t fs)
with_other t f fs e = ap (λ b. cond b (also (with_rows t f) fs) (also f (also_rows t fs))) e

-- the members that were made of those so far, where `placed` says that a union has taken the rows
pub record AreDistributed (t : List Atom) (placed : Bool) (from made : List Plan) : Type 0 where
  pub are : (fs : Logics PlanAtom) → appended (plan_forms made) (cond placed fs (also_rows t fs)) ≡ also_rows t (appended (plan_forms from) fs)

pub distributed_none : (t : List Atom) → AreDistributed t false [] []
distributed_none t = record { are = λ fs. refl }

-- a union takes them
pub distributed_union : (t : List Atom) (b : Bool) (ps qs rs : List Plan) (p q : Plan) → b ≡ false → is_union (plan_form p) ≡ true → plan_form q ≡ with_rows t (plan_form p) → rs ≡ qs ++ q ∷ [] → AreDistributed t b ps qs
    → AreDistributed t true (ps ++ p ∷ []) rs
distributed_union t true ps qs rs p q n u w r m = absurd (true≢false n)
distributed_union t false ps qs rs p q n u w r m = record {
  are = λ fs. ap (λ xs. appended (plan_forms xs) fs) r ∙ appended_last qs q fs ∙ ap (λ g. appended (plan_forms qs) (also g fs)) w ∙ ap (appended (plan_forms qs)) (sym (with_union t (plan_form p) fs u))
      ∙ m.are (also (plan_form p) fs) ∙ ap (also_rows t) (sym (appended_last ps p fs));
}

-- another plan is one member more
pub distributed_other : (t : List Atom) (b : Bool) (ps qs rs : List Plan) (p : Plan) → (b ≡ true) ⊎ (is_union (plan_form p) ≡ false) → rs ≡ qs ++ p ∷ [] → AreDistributed t b ps qs → AreDistributed t b (ps ++ p ∷ []) rs
distributed_other t true ps qs rs p u r m = record {
  are = λ fs. ap (λ xs. appended (plan_forms xs) fs) r ∙ appended_last qs p fs ∙ m.are (also (plan_form p) fs) ∙ ap (also_rows t) (sym (appended_last ps p fs));
}
distributed_other t false ps qs rs p (inl e) r m = absurd (true≢false (sym e))
distributed_other t false ps qs rs p (inr e) r m = record {
  are = λ fs. ap (λ xs. appended (plan_forms xs) (also_rows t fs)) r ∙ appended_last qs p (also_rows t fs) ∙ ap (appended (plan_forms qs)) (sym (with_other t (plan_form p) fs e))
      ∙ m.are (also (plan_form p) fs) ∙ ap (also_rows t) (sym (appended_last ps p fs));
}

yielded_all : (ps xs : List Plan) → map (λ y. y) ps ≡ xs → appended (plan_forms ps) none ≡ plan_forms xs
yielded_all ps xs y = appended_none (plan_forms ps) ∙ ap plan_forms (sym (map-id ps) ∙ y)

-- at the end the rows are one member more where no union has taken them
pub distributed_end : (t : List Atom) (b : Bool) (ps qs rs xs : List Plan) (p : Plan) → b ≡ false → plan_form p ≡ atom (rows t) → rs ≡ qs ++ p ∷ [] → map (λ y. y) ps ≡ xs → AreDistributed t b ps qs → plan_forms rs ≡ also_rows t (plan_forms xs)
distributed_end t true ps qs rs xs p n e r y m = absurd (true≢false n)
distributed_end t false ps qs rs xs p n e r y m =
    sym (appended_none (plan_forms rs)) ∙ ap (λ zs. appended (plan_forms zs) none) r ∙ appended_last qs p none ∙ ap (λ g. appended (plan_forms qs) (also g none)) e ∙ m.are none ∙ ap (also_rows t) (yielded_all ps xs y)

pub distributed_placed : (t : List Atom) (b : Bool) (ps qs xs : List Plan) → b ≡ true → map (λ y. y) ps ≡ xs → AreDistributed t b ps qs → plan_forms qs ≡ also_rows t (plan_forms xs)
distributed_placed t true ps qs xs n y m = sym (appended_none (plan_forms qs)) ∙ m.are none ∙ ap (also_rows t) (yielded_all ps xs y)
distributed_placed t false ps qs xs n y m = absurd (true≢false (sym n))

-- ---- rows among the members

one_more : (b : Bool) (u : List Atom) (xs ys : List (List Atom)) (t : List Atom) → xs ≡ ys ++ t ∷ [] → cond b (u ∷ xs) xs ≡ cond b (u ∷ ys) ys ++ t ∷ []
one_more true u xs ys t h = ap (λ vs. u ∷ vs) h
one_more false u xs ys t h = h

-- the atoms of one member more that is rows
pub rows_more : (ts us : List (List Atom)) (ps : List Plan) (p : Plan) (t : List Atom) → plan_form p ≡ atom (rows t) → us ≡ ts ++ t ∷ [] → ts ≡ rows_of (plan_forms ps) → us ≡ rows_of (plan_forms (ps ++ p ∷ []))
rows_more ts us ps p t e u h = u ∙ ap (λ vs. vs ++ t ∷ []) h ∙ sym (last ps)
  where
    last : (ps : List Plan) → rows_of (plan_forms (ps ++ p ∷ [])) ≡ rows_of (plan_forms ps) ++ t ∷ []
    last [] = ap (λ f. rows_of (also f none)) e
    last (q ∷ ps) = one_more (is_rows (plan_form q)) (atoms_of (plan_form q)) _ _ t (last ps)

pub rows_still : (ts : List (List Atom)) (ps : List Plan) (p : Plan) → is_rows (plan_form p) ≡ false → ts ≡ rows_of (plan_forms ps) → ts ≡ rows_of (plan_forms (ps ++ p ∷ []))
rows_still ts ps p e h = h ∙ sym (last ps)
  where
    last : (ps : List Plan) → rows_of (plan_forms (ps ++ p ∷ [])) ≡ rows_of (plan_forms ps)
    last [] = ap (λ b. cond b (atoms_of (plan_form p) ∷ []) []) e
    last (q ∷ ps) = ap (λ vs. cond (is_rows (plan_form q)) (atoms_of (plan_form q) ∷ vs) vs) (last ps)

-- where there are rows and a union
pub distributed_moves : (fs : Logics PlanAtom) → some_member is_rows fs ≡ true → some_member is_union fs ≡ true → also_all_rows (rows_of fs) (no_rows_of fs) ≡ distributed fs
distributed_moves fs e d = ap (λ b. cond b (also_all_rows (rows_of fs) (no_rows_of fs)) fs) (sym (and_from (some_member is_rows fs) (some_member is_union fs) e d))

-- where there are none
pub distributed_stays : (fs : Logics PlanAtom) → (some_member is_rows fs ≡ false) ⊎ (some_member is_union fs ≡ false) → fs ≡ distributed fs
distributed_stays fs h = ap (λ b. cond b (also_all_rows (rows_of fs) (no_rows_of fs)) fs) (sym (neither (some_member is_rows fs) (some_member is_union fs) h))
  where
    neither : (a b : Bool) → (a ≡ false) ⊎ (b ≡ false) → (a && b) ≡ false
    neither true b (inl e) = absurd (true≢false e)
    neither true b (inr e) = e
    neither false b h = refl
