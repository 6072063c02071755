-- Lists that hold only where a plan does, put together.
use Rattle.std.proofs.Common.{◌≡◌, ℕ, zero, suc, ◌<◌, Vec, Global, Bool, true, List, [], ◌∷◌, ◌++◌, ⊎_elim, inl, inr, length, get_or, arith, refl, sym, ap, ◌∙◌, subst, true≢false}
use Rattle.std.specs.Prelude.{◌==◌}
use Rattle.std.proofs.lemmas.Bool.Decides.{nat_tests}
use Rattle.std.proofs.Math.Bool.{or-false}
use Rattle.std.proofs.lemmas.Bool.{and_parts}
use Rattle.ded_model.specs.declared.plan.Plan.{Plan}
use Rattle.ded_model.specs.declared.slot.Slot.{Slot}
use Rattle.ded_model.specs.Catalogue.{Catalogue, stored, GivenHolds}
use Rattle.ded_model.specs.Cell.{conj_holds}
use Rattle.ded_model.specs.Lines.{Line, tuples_lines}
use Rattle.ded_model.specs.Row.{Atom, tuple_holds, tuple_mentions, tuples_hold, tuples_mention}
use Rattle.ded_algebra.specs.Evaluation.{IsEvaluation}
use Rattle.ded_model.specs.Logic.{every_of, some_of, exists, logics, Sat, SatEvery, SatSome}
use Rattle.ded_model.specs.PlanForm.{PlanForm, PlanAtomHolds, plan_form, plan_forms}
use Rattle.ded_model.specs.Point.{slot, Point, IsPoint, IsExtension}
use Rattle.ded_model.proofs.Members.{or_split, subset_none}
use Rattle.ded_genrel.specs.Lists.{conjs_of, conjs_hold}
use Rattle.ded_genrel.specs.Operations.{IsMeet, IsProjection, IsInhabitedPart}
use Rattle.ded_genrel.proofs.Items.{conjs-any-at}
use Rattle.ded_genrel.proofs.Laws.{conjs_hold-append}
use Rattle.ded_eval.specs.Finding.{IsFoundIn, IsFoundWith}
use Rattle.ded_eval.specs.Within.{is_rows, rows_hold, all_rows_hold, AreRowsOf}
use Rattle.ded_eval.proofs.Evaluated.{every-push}
use Rattle.ded_model.proofs.PointTexts.{extension-point}
use Rattle.ded_eval.proofs.Joined.{rows_sat}

-- a list with one conjunction holds where that does
alone_holds : {A : Type 0} (h : A → Point → Bool) (atoms : List A) (p : Point) → conjs_hold h (atoms ∷ []) p ≡ true → conj_holds h atoms p ≡ true
alone_holds h atoms p x = sym (or-false (conj_holds h atoms p)) ∙ x

module _ {A : Type 0} (h : A → Point → Bool) (c : Catalogue) (inside : Point → Bool) where
  -- ---- lists of a plan

  pub found_none : (f : PlanForm) → IsFoundIn h c inside f []
  found_none f = λ p i w x. absurd (true≢false (sym x))

  pub found_append : (f : PlanForm) (xs ys : List (List A)) → IsFoundIn h c inside f xs → IsFoundIn h c inside f ys → IsFoundIn h c inside f (xs ++ ys)
  found_append f xs ys a b = λ p i w x. ⊎_elim (λ (y : conjs_hold h xs p ≡ true). a p i w y) (λ y. b p i w y) (or_split _ _ (sym (conjs_hold-append h xs ys p) ∙ x))

  -- that of a part holds only where the union does
  some_at : (ps : List Plan) (i : ℕ) (part : Plan) (p : Point) → i < length ps → part ≡ get_or ps i part → Sat (PlanAtomHolds (stored c)) (plan_form part) p → SatSome (PlanAtomHolds (stored c)) (plan_forms ps) p
  some_at [] i part p l e s = absurd (omega (arith, l))
  some_at (q ∷ ps) zero part p l e s = inl (subst (λ (x : Plan). Sat (PlanAtomHolds (stored c)) (plan_form x) p) e s)
  some_at (q ∷ ps) (suc i) part p l e s = inr (some_at ps i part p (omega (arith, l)) e s)

  pub found_part : (ps : List Plan) (i : ℕ) (part : Plan) (xs : List (List A)) → i < length ps → part ≡ get_or ps i part → IsFoundIn h c inside (plan_form part) xs → IsFoundIn h c inside (some_of (plan_forms ps)) xs
  found_part ps i part xs l e a = λ p k w x. some_at ps i part p l e (a p k w x)

  -- and without the slot only where the projection does
  pub found_projected : (m : A → Slot → Bool) (ls : A → List Line) (outside : Point → Bool) (f : PlanForm) (s : Slot) (xs out : List (List A))
      → ((p q : Point) → IsPoint p → IsExtension s.sort p (slot s) q → inside p ≡ true → outside q ≡ true) → IsFoundIn h c outside f xs → IsProjection h m ls xs s out → IsFoundIn h c inside (exists s.sort (slot s) f) out
  found_projected m ls outside f s xs out stays a o = λ p i w x. let q = (o.holds p i).0 x in (q.0, q.1, a q.0 (extension-point s.sort p q.0 (slot s) i q.1) (stays p q.0 i q.1 w) q.2)

  -- ---- lists that are joined with a plan

  pub with_none : (f : PlanForm) (xs : List (List A)) → IsFoundWith h c inside f xs []
  with_none f xs = λ p i w x. absurd (true≢false (sym x))

  pub with_append : (f : PlanForm) (xs old new : List (List A)) → IsFoundWith h c inside f xs old → IsFoundWith h c inside f xs new → IsFoundWith h c inside f xs (old ++ new)
  with_append f xs old new a b = λ p i w x. ⊎_elim (λ (y : conjs_hold h old p ≡ true). a p i w y) (λ y. b p i w y) (or_split _ _ (sym (conjs_hold-append h old new p) ∙ x))

  -- one conjunction of the list, together with what is found in it
  pub with_conj : (m : A → Slot → Bool) (ls : A → List Line) (f : PlanForm) (items : List (Vec A Global)) (i : ℕ) (x : Vec A Global) (within : Point → Bool) (next both more : List (List A))
      → i < length items → x ≡ get_or items i x → ((p : Point) → inside p ≡ true → conj_holds h x.items p ≡ true → within p ≡ true)
      → IsFoundIn h c within f next → IsMeet h m ls (x.items ∷ []) next both → IsInhabitedPart h m ls both more → IsFoundWith h c inside f (conjs_of items) more
  with_conj m ls f items i x within next both more l e into a o k = λ p j w y.
      let parts = and_parts (conjs_hold h (x.items ∷ []) p) (conjs_hold h next p) (sym (o.holds p j) ∙ sym (k.is.holds p j) ∙ y) in
      let first : conj_holds h x.items p ≡ true = alone_holds h x.items p parts.0 in
      (conjs-any-at (λ atoms. conj_holds h atoms p) items i x l e first, a p j (into p w first) parts.1)

  -- ---- all parts of a join

  module _ (all : List PlanForm) where
    -- inside, the list holds only where all rows and the first parts do
    abbrev pub IsFoundFrom : List PlanForm → List (List A) → Type 0
    IsFoundFrom fs xs = (p : Point) → IsPoint p → inside p ≡ true → conjs_hold h xs p ≡ true → (all_rows_hold all p ≡ true) × SatEvery (PlanAtomHolds (stored c)) (logics fs) p

    pub from_rows : (m : A → Slot → Bool) (ls : A → List Line) (atoms : List A) → AreRowsOf h m ls all atoms → IsFoundFrom [] (atoms ∷ [])
    from_rows m ls atoms r = λ p i w x. (sym (r.holds p) ∙ alone_holds h atoms p x, tt)

    pub from_more_rows : (fs : List PlanForm) (f : PlanForm) (xs : List (List A)) → is_rows f ≡ true → ((p : Point) → all_rows_hold all p ≡ true → rows_hold f p ≡ true) → IsFoundFrom fs xs → IsFoundFrom (fs ++ f ∷ []) xs
    from_more_rows fs f xs e k j = λ p i w x. let a = j p i w x in (a.0, (every-push (PlanAtomHolds (stored c)) fs f p).1 (a.1, rows_sat c f p e (k p a.0)))

    pub from_more : (fs : List PlanForm) (f : PlanForm) (xs out : List (List A)) → IsFoundFrom fs xs → IsFoundWith h c inside f xs out → IsFoundFrom (fs ++ f ∷ []) out
    from_more fs f xs out j o = λ p i w x. let y = o p i w x in let a = j p i w y.0 in (a.0, (every-push (PlanAtomHolds (stored c)) fs f p).1 (a.1, y.1))

    pub from_all : (xs : List (List A)) → IsFoundFrom all xs → IsFoundIn h c inside (every_of (logics all)) xs
    from_all xs j = λ p i w x. (j p i w x).1

-- ---- what is found

-- a list with a conjunction without atoms holds everywhere
pub everything_at : {A : Type 0} (h : A → Point → Bool) (items : List (Vec A Global)) (i : ℕ) (x : Vec A Global) → i < length items → x ≡ get_or items i x → x.items ≡ [] → (p : Point) → conjs_hold h (conjs_of items) p ≡ true
everything_at h items i x l e n p = conjs-any-at (λ atoms. conj_holds h atoms p) items i x l e (ap (λ atoms. conj_holds h atoms p) n)

-- a list without elements
pub none_of : {A : Type 0} (xs : List A) (n : ℕ) (b : Bool) → n ≡ length xs → b ≡ (n == 0) → b ≡ true → xs ≡ []
none_of [] n b k e t = refl
none_of (x ∷ xs) n b k e t = absurd (more (length xs) (sym (e ∙ ap (λ m. m == 0) k) ∙ t))
  where
    more : (n : ℕ) → (suc n == 0) ≡ true → ⊥
    more n e = grind (arith, nat_tests)

-- what holds everywhere is evaluated to the tuple without atoms
pub found_everywhere : (c : Catalogue) (f : PlanForm) (ts : List (List Atom)) → ts ≡ [] ∷ [] → ((p : Point) → IsPoint p → GivenHolds c f p) → IsEvaluation c f (tuples_hold ts) (tuples_mention ts) (tuples_lines ts)
unfolding tuples_hold tuple_holds tuples_mention tuple_mentions
found_everywhere c f ts e k = subst (λ (us : List (List Atom)). IsEvaluation c f (tuples_hold us) (tuples_mention us) (tuples_lines us)) (sym e)
    (record { holds = λ p i w. (λ x. k p i, λ x. refl); slots = λ s u. absurd (true≢false (sym u)); lines = subset_none _ })

-- and what holds nowhere to no tuples
pub found_nowhere : (c : Catalogue) (f : PlanForm) (ts : List (List Atom)) → ts ≡ [] → ((p : Point) → IsPoint p → GivenHolds c f p → ⊥) → IsEvaluation c f (tuples_hold ts) (tuples_mention ts) (tuples_lines ts)
unfolding tuples_hold tuples_mention
found_nowhere c f ts e k = subst (λ (us : List (List Atom)). IsEvaluation c f (tuples_hold us) (tuples_mention us) (tuples_lines us)) (sym e)
    (record { holds = λ p i w. (λ x. absurd (true≢false (sym x)), λ g. absurd (k p i g)); slots = λ s u. absurd (true≢false (sym u)); lines = subset_none _ })
