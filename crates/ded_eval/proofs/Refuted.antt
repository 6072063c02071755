-- Lists and plans that hold at no point at which some atoms do.
use Rattle.std.proofs.Common.{◌≡◌, ℕ, zero, suc, ◌<◌, Bool, true, false, List, [], ◌∷◌, ◌++◌, ⊎_elim, length, get_or, map, arith, refl, sym, ap, ◌∙◌, subst, true≢false}
use Rattle.std.proofs.Math.Bool.{or-false}
use Rattle.std.proofs.lemmas.Bool.{and_from}
use Rattle.ded_model.specs.declared.plan.Plan.{Plan}
use Rattle.ded_model.specs.declared.slot.Slot.{Slot}
use Rattle.ded_model.specs.Catalogue.{Catalogue, stored}
use Rattle.ded_model.specs.Cell.{conj_holds}
use Rattle.ded_model.specs.Lines.{Line}
use Rattle.ded_model.specs.Logic.{every_of, exists, Sat, SatEvery}
use Rattle.ded_model.specs.PlanForm.{PlanForm, PlanAtomHolds, plan_form, plan_forms}
use Rattle.ded_model.specs.Point.{slot, Point, IsPoint, IsExtension, same_slot, stands_in}
use Rattle.ded_model.proofs.Members.{or_split}
use Rattle.ded_model.proofs.PointTexts.{extension-point}
use Rattle.ded_model.proofs.Points.{same_slot_is}
use Rattle.ded_model.proofs.Unused.{extension_same}
use Rattle.ded_theory.specs.Verdicts.{IsVerdict}
use Rattle.ded_theory.specs.declared.answers.Verdict.{Verdict}
use Rattle.ded_theory.specs.declared.answers.Verdict.TheVariants.{Empty, Inhabited, Unknown}
use Rattle.ded_theory.proofs.Conjunctions.{conj_holds-append}
use Rattle.ded_genrel.specs.Lists.{conjs_hold}
use Rattle.ded_genrel.proofs.Laws.{conjs_hold-append}
use Rattle.ded_eval.specs.Finding.{IsWholeIn, HasValues, AreAlike, AreRefuted, IsRefuted, IsMetVerdict, IsConjVerdict}
use Rattle.ded_eval.specs.Within.{all_rows_hold}
use Rattle.ded_eval.proofs.Joined.{every_rows}

-- ---- values that an extension at another slot keeps

kept_values : (ss : List Slot) (s : Slot) (p q : Point) → stands_in ss s ≡ false → IsExtension s.sort p (slot s) q → HasValues ss p q
kept_values ss s p q free x = record {
  numbers = λ t rational stands. (extension_same s.sort p q (slot s) (slot t) x (apart t stands (same_slot t s) refl)).number;
  texts = λ t textual stands. (extension_same s.sort p q (slot s) (slot t) x (apart t stands (same_slot t s) refl)).text;
}
  where
    apart : (t : Slot) → stands_in ss t ≡ true → (b : Bool) → same_slot t s ≡ b → b ≡ false
    apart t stands true k = absurd (true≢false (sym stands ∙ ap (stands_in ss) (same_slot_is t s k) ∙ free))
    apart t stands false k = refl

module _ {A : Type 0} (h : A → Point → Bool) (atoms : List A) where
  -- the verdict of both conjunctions as one list
  pub met_verdict : (m : A → Slot → Bool) (l : A → List Line) (xs both : List A) (v : Verdict) → both ≡ atoms ++ xs → IsVerdict h m l both v → IsMetVerdict h atoms xs v
  met_verdict m l xs both Empty e n = λ p i a x. true≢false (sym (ap (λ zs. conj_holds h zs p) e ∙ conj_holds-append h atoms xs p ∙ and_from _ _ a x) ∙ n p i)
  met_verdict m l xs both Inhabited e o = (o.0, o.1, sym (conj_holds-append h atoms xs o.0) ∙ ap (λ zs. conj_holds h zs o.0) (sym e) ∙ o.2)
  met_verdict m l xs both Unknown e w = tt

  -- ---- lists

  pub refuted_none : AreRefuted h atoms []
  refuted_none = λ p i a x. true≢false (sym x)

  pub refuted_more : (ss : List Slot) (old : List (List A)) (x : List A) → AreRefuted h atoms old → IsConjVerdict h atoms ss x Empty → AreRefuted h atoms (old ++ x ∷ [])
  refuted_more ss old x r s = λ p i a y. ⊎_elim (λ (z : conjs_hold h old p ≡ true). r p i a z) (λ z. s p i a (sym (or-false (conj_holds h x p)) ∙ z)) (or_split _ _ (sym (conjs_hold-append h old (x ∷ []) p) ∙ y))

  module _ (c : Catalogue) where
    -- ---- plans

    pub refuted_whole : (f : PlanForm) (xs : List (List A)) → IsWholeIn h c (conj_holds h atoms) f xs → AreRefuted h atoms xs → IsRefuted h atoms c f
    refuted_whole f xs w r = λ p i a g. r p i a (w p i a g)

    -- a projection, where the atoms hold alike at extensions
    pub refuted_project : (ss : List Slot) (s : Slot) (f : PlanForm) → AreAlike h ss atoms → stands_in ss s ≡ false → IsRefuted h atoms c f → IsRefuted h atoms c (exists s.sort (slot s) f)
    refuted_project ss s f alike free r = λ p i a g.
        let q = g.0 in
        let j : IsPoint q = extension-point s.sort p q (slot s) i g.1 in
        r q j (sym (alike p q i j (kept_values ss s p q free g.1)) ∙ a) g.2

    -- a join, where a part holds at no point at which the rows do as well
    every_at : (ps : List Plan) (i : ℕ) (part : Plan) (p : Point) → i < length ps → part ≡ get_or ps i part → SatEvery (PlanAtomHolds (stored c)) (plan_forms ps) p → Sat (PlanAtomHolds (stored c)) (plan_form part) p
    every_at [] i part p l e s = absurd (omega (arith, l))
    every_at (q ∷ ps) zero part p l e s = subst (λ (x : Plan). Sat (PlanAtomHolds (stored c)) (plan_form x) p) (sym e) s.0
    every_at (q ∷ ps) (suc i) part p l e s = every_at ps i part p (omega (arith, l)) e s.1

    pub refuted_part : (own inner : List A) (ps : List Plan) (i : ℕ) (part : Plan) → i < length ps → part ≡ get_or ps i part → inner ≡ atoms ++ own → ((p : Point) → conj_holds h own p ≡ all_rows_hold (map plan_form ps) p)
        → IsRefuted h inner c (plan_form part) → IsRefuted h atoms c (every_of (plan_forms ps))
    refuted_part own inner ps i part l at e is r = λ p j a g.
        r p j (ap (λ xs. conj_holds h xs p) e ∙ conj_holds-append h atoms own p ∙ and_from _ _ a (is p ∙ every_rows c (map plan_form ps) p g)) (every_at ps i part p l at g)
