-- Whether a list holds somewhere, from what is answered of its conjunctions.
use Rattle.std.proofs.Common.{sym, ap, ◌≡◌, Bool, false, ◌||◌, List, [], ◌∷◌, ◌++◌, inl, refl, ◌∙◌, Vec, Global, ℕ, ◌<◌, length, get_or, subst}
use Rattle.ded_num.proofs.Tests.{or_neither_last}
use Rattle.ded_model.specs.declared.slot.Slot.{Slot}
use Rattle.ded_model.specs.Point.{Point}
use Rattle.ded_model.specs.Cell.{conj_holds, HoldsSomewhere}
use Rattle.ded_model.specs.Lines.{Line}
use Rattle.ded_model.proofs.Rows.{or_left}
use Rattle.ded_theory.specs.declared.answers.Verdict.{Verdict}
use Rattle.ded_theory.specs.declared.answers.Verdict.TheVariants.{Empty, Inhabited, Unknown}
use Rattle.ded_theory.specs.Conjunctions.{IsWide}
use Rattle.ded_theory.specs.Verdicts.{IsVerdict}
use Rattle.ded_genrel.specs.Lists.{conjs_of, conjs_hold}
use Rattle.ded_genrel.specs.Operations.{IsVerdictOn}
use Rattle.ded_genrel.proofs.Items.{conjs-any-at}
use Rattle.ded_genrel.proofs.Laws.{conjs_hold-append}
use Rattle.ded_genrel.proofs.Projected.{some-left, some-right}

module _ {A : Type 0} (h : A → Point → Bool) (m : A → Slot → Bool) (l : A → List Line) where
  -- the empty list
  pub verdict_none : IsVerdictOn h m l [] Empty
  verdict_none = λ p i. refl

  -- one more conjunction that holds nowhere
  pub verdict_empty : (conjs : List (List A)) (c : List A) (v : Verdict) → IsVerdictOn h m l conjs v → IsVerdict h m l c Empty → IsVerdictOn h m l (conjs ++ c ∷ []) v
  verdict_empty conjs c Empty k e = λ p i. conjs_hold-append h conjs (c ∷ []) p ∙ or_neither_last (conjs_hold h conjs p) (conj_holds h c p) (k p i) (e p i)
  verdict_empty conjs c Inhabited k e = (k.0, k.1, conjs_hold-append h conjs (c ∷ []) k.0 ∙ or_left (conjs_hold h conjs k.0) (conj_holds h c k.0 || false) k.2)
  verdict_empty conjs c Unknown k e = some-left (IsWide m l) conjs (c ∷ []) k

  -- one more of which nothing is known
  pub verdict_unknown : (conjs : List (List A)) (c : List A) → IsVerdict h m l c Unknown → IsVerdictOn h m l (conjs ++ c ∷ []) Unknown
  verdict_unknown conjs c e = some-right (IsWide m l) conjs (c ∷ []) (inl e)

  -- steps of the loop
  pub verdict_empty_more : (conjs next : List (List A)) (c copy : List A) (v w u : Verdict) → next ≡ conjs ++ c ∷ [] → copy ≡ c → w ≡ v → u ≡ Empty → IsVerdictOn h m l conjs v → IsVerdict h m l copy u → IsVerdictOn h m l next w
  verdict_empty_more conjs next c copy v w u e j k is r t =
      subst (λ xs. IsVerdictOn h m l xs w) (sym e) (subst (λ z. IsVerdictOn h m l (conjs ++ c ∷ []) z) (sym k)
      (verdict_empty conjs c v r (subst (λ xs. IsVerdict h m l xs Empty) j (subst (λ z. IsVerdict h m l copy z) is t))))

  pub verdict_unknown_more : (conjs next : List (List A)) (c copy : List A) (w u : Verdict) → next ≡ conjs ++ c ∷ [] → copy ≡ c → w ≡ Unknown → u ≡ Unknown → IsVerdict h m l copy u → IsVerdictOn h m l next w
  verdict_unknown_more conjs next c copy w u e j k is t =
      subst (λ xs. IsVerdictOn h m l xs w) (sym e) (subst (λ z. IsVerdictOn h m l (conjs ++ c ∷ []) z) (sym k)
      (verdict_unknown conjs c (subst (λ xs. IsVerdict h m l xs Unknown) j (subst (λ z. IsVerdict h m l copy z) is t))))

  -- a conjunction of the list that holds somewhere
  pub verdict_inhabited : (xs : List (Vec A Global)) (i : ℕ) (x : Vec A Global) (conjs : List (List A)) (copy : List A) (u : Verdict) → i < length xs → x ≡ get_or xs i x → conjs_of xs ≡ conjs → copy ≡ x.items → u ≡ Inhabited
      → IsVerdict h m l copy u → HoldsSomewhere (conjs_hold h conjs)
  verdict_inhabited xs i x conjs copy u lt is e j k t =
      let v : HoldsSomewhere (conj_holds h x.items) = subst (λ ys. IsVerdict h m l ys Inhabited) j (subst (λ z. IsVerdict h m l copy z) k t) in
      (v.0, v.1, ap (λ ys. conjs_hold h ys v.0) (sym e) ∙ conjs-any-at (λ ys. conj_holds h ys v.0) xs i x lt is v.2)
