-- The parts of a join in the order in which they are joined.
use Rattle.std.proofs.Common.{◌≡◌, ℕ, ◌<◌, nat_eq, Bool, true, false, cond, List, [], ◌∷◌, length, get_or, take, drop, map, inl, inr, arith, refl, sym, ap, ◌∙◌, subst, true≢false}
use Rattle.std.proofs.lemmas.Bool.{eqb-true, eq-eqb}
use Rattle.std.proofs.lemmas.List.{take-append-drop, map-append}
use Rattle.std.proofs.lemmas.List.Edits.{Swapped, length-swap, swapped_from_swap}
use Rattle.std.proofs.lemmas.List.Elements.{All-from_recursion, recursion_from_All}
use Rattle.std.proofs.lemmas.List.Sorted.{IsPermutation-refl, IsPermutation-swap, IsPermutation-map, IsPermutation-sym, All-permutation}
use Rattle.std.specs.List.{swap, AllByRecursion}
use Rattle.std.specs.List.Sorted.{IsPermutation}
use Rattle.ded_model.specs.declared.plan.Plan.{Plan}
use Rattle.ded_model.specs.Logic.{logics, Sat, SatEvery}
use Rattle.ded_model.specs.PlanForm.{PlanAtom, PlanForm, plan_form}
use Rattle.ded_model.specs.Point.{Point}
use Rattle.ded_eval.specs.Joining.{place_of, IsPlace}
use Rattle.ded_eval.proofs.Evaluated.{every-left}

-- the parts in that order
abbrev pub in_turn : ℕ → List Plan → List Plan
in_turn front ps = swap ps 0 front

pub in_turn-length : (front : ℕ) (ps : List Plan) → length (in_turn front ps) ≡ length ps
in_turn-length front ps = length-swap ps 0 front

inside : (n front : ℕ) → 0 < n → IsPlace n front → front < n
inside n front l (inl e) = subst (λ k. k < n) (sym e) l
inside n front l (inr h) = h

-- the place of each is that of a part
pub place_inside : (n front i : ℕ) → IsPlace n front → i < n → place_of front i < n
place_inside n front i h l = first (nat_eq i 0) (nat_eq i front)
  where
    first : (a b : Bool) → cond a front (cond b 0 i) < n
    first true b = inside n front (omega (arith, l)) h
    first false true = omega (arith, l)
    first false false = l

-- what stands at its place
pub at_turn : (front i : ℕ) (ps : List Plan) (p : Plan) → IsPlace (length ps) front → i < length ps → p ≡ get_or ps (place_of front i) p → p ≡ get_or (in_turn front ps) i p
at_turn front i ps p h l e = by (nat_eq i 0) (nat_eq i front) refl refl
  where
    moved : Swapped (λ j. get_or ps j p) (λ j. get_or (swap ps 0 front) j p) 0 front
    moved = swapped_from_swap ps (swap ps 0 front) 0 front p (omega (arith, l)) (inside (length ps) front (omega (arith, l)) h) refl

    by : (a b : Bool) → nat_eq i 0 ≡ a → nat_eq i front ≡ b → p ≡ get_or (in_turn front ps) i p
    by true b f g =
        let at : p ≡ get_or ps front p = subst (λ (c : Bool). p ≡ get_or ps (cond c front (cond (nat_eq i front) 0 i)) p) f e in
        subst (λ k. p ≡ get_or (in_turn front ps) k p) (sym (eqb-true i 0 f)) (at ∙ sym moved.0)
    by false true f g =
        let at : p ≡ get_or ps (cond (nat_eq i front) 0 i) p = subst (λ (c : Bool). p ≡ get_or ps (cond c front (cond (nat_eq i front) 0 i)) p) f e in
        let first : p ≡ get_or ps 0 p = subst (λ (c : Bool). p ≡ get_or ps (cond c 0 i) p) g at in
        subst (λ k. p ≡ get_or (in_turn front ps) k p) (sym (eqb-true i front g)) (first ∙ sym moved.1)
    by false false f g =
        let at : p ≡ get_or ps (cond (nat_eq i front) 0 i) p = subst (λ (c : Bool). p ≡ get_or ps (cond c front (cond (nat_eq i front) 0 i)) p) f e in
        let same : p ≡ get_or ps i p = subst (λ (c : Bool). p ≡ get_or ps (cond c 0 i) p) g at in
        same ∙ sym (moved.2 i (λ k. absurd (true≢false (sym (eq-eqb i 0 k) ∙ f))) (λ k. absurd (true≢false (sym (eq-eqb i front k) ∙ g))))

permuted : (front : ℕ) (ps : List Plan) → IsPlace (length ps) front → IsPermutation ps (in_turn front ps)
permuted front [] h = IsPermutation-refl []
permuted front (p ∷ ps) h = IsPermutation-swap (p ∷ ps) (swap (p ∷ ps) 0 front) 0 front (omega arith) (inside (length (p ∷ ps)) front (omega arith) h) refl

module _ (Holds : PlanAtom → Point → Type 0) (p : Point) where
  every_each : (fs : List PlanForm) → SatEvery Holds (logics fs) p → AllByRecursion (λ f. Sat Holds f p) fs
  every_each [] y = tt
  every_each (f ∷ fs) y = (y.0, every_each fs y.1)

  each_every : (fs : List PlanForm) → AllByRecursion (λ f. Sat Holds f p) fs → SatEvery Holds (logics fs) p
  each_every [] y = tt
  each_every (f ∷ fs) y = (y.0, each_every fs y.1)

  moved_every : (fs gs : List PlanForm) → IsPermutation fs gs → SatEvery Holds (logics fs) p → SatEvery Holds (logics gs) p
  moved_every fs gs m y = each_every gs (recursion_from_All _ gs (All-permutation (λ f. Sat Holds f p) fs gs m (All-from_recursion _ fs (every_each fs y))))

  -- where all parts hold, the first ones in that order do
  pub first_hold : (front i : ℕ) (ps : List Plan) → IsPlace (length ps) front → SatEvery Holds (logics (map plan_form ps)) p → SatEvery Holds (logics (map plan_form (take i (in_turn front ps)))) p
  first_hold front i ps h y =
      let qs = in_turn front ps in
      let whole : SatEvery Holds (logics (map plan_form qs)) p = moved_every (map plan_form ps) (map plan_form qs) (IsPermutation-map plan_form ps qs (permuted front ps h)) y in
      every-left Holds (map plan_form (take i qs)) (map plan_form (drop i qs)) p
      (subst (λ fs. SatEvery Holds (logics fs) p) (ap (map plan_form) (sym (take-append-drop i qs)) ∙ map-append plan_form (take i qs) (drop i qs)) whole)

  -- where all of them do, all parts do
  pub all_hold : (front : ℕ) (ps : List Plan) → IsPlace (length ps) front → SatEvery Holds (logics (map plan_form (in_turn front ps))) p → SatEvery Holds (logics (map plan_form ps)) p
  all_hold front ps h y =
      let qs = in_turn front ps in
      moved_every (map plan_form qs) (map plan_form ps) (IsPermutation-map plan_form qs ps (IsPermutation-sym ps qs (permuted front ps h))) y
