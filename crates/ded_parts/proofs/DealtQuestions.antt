-- Truths of closed formulas over a relation whose tuples are dealt out.
use Rattle.std.proofs.Common.{ℕ, inl, inr, List, [], ◌∷◌, arith}
use Rattle.std.specs.Prelude.{◌↔◌}
use Rattle.ded_laws.proofs.Decided.{Holds_stable}
use Rattle.ded_model.proofs.Lists.{Every, Some as SomeOf}
use Rattle.ded_model.specs.declared.slot.Sort.{Sort}
use Rattle.ded_model.specs.Catalogue.{Catalogue, Holds, origin, IsTruth}
use Rattle.ded_model.specs.Form.{Form}
use Rattle.ded_model.specs.Known.{IsWellFormed}
use Rattle.ded_model.specs.Logic.{implies}
use Rattle.ded_model.specs.PlanForm.{PlanForm}
use Rattle.ded_model.specs.Point.{Key, Point}
use Rattle.ded_plan.specs.Plans.{IsPlanOf}
use Rattle.ded_parts.specs.Parts.{AreParts}
use Rattle.ded_parts.specs.Questions.{for_all, for_some, without}
use Rattle.ded_parts.specs.Routes.{PlannedView, DistributesBy}
use Rattle.ded_parts.proofs.DealtViews.{answers}

-- of a closed formula
pub truths : (d c : Catalogue) (n : List ℕ) (cs : List Catalogue) (f : Form) (plan : PlanForm) (vs : List PlannedView) → IsWellFormed d → AreParts d n (c ∷ cs) → IsPlanOf d [] f plan
    → DistributesBy d n vs plan → IsTruth d f ↔ SomeOf (λ e. IsTruth e f) (c ∷ cs)
truths d c n cs f plan vs w a x k = answers d c n cs [] f plan vs w a x k 1 [] (omega arith) tt

-- ---- implications

-- a formula implies another one of all values where there are none of which it holds and the other doesn't
no_counterexample : (c : Catalogue) (qs : List (Sort × Key)) (f g : Form) (p : Point) → Holds c (for_all qs (implies f g)) p ↔ (¬ Holds c (for_some qs (without f g)) p)
no_counterexample c [] f g p = (λ h some. some.1.0 (h some.0), λ none x. Holds_stable c g p (λ fails. none (x, (fails, tt))))
no_counterexample c (v ∷ qs) f g p = (
  λ every some. (no_counterexample c qs f g some.0).0 (every some.0 some.1) some.2,
  λ none q x. (no_counterexample c qs f g q).1 (λ h. none (q, x, h)),
)

-- none of a list is none of its elements
none_of : (P : Catalogue → Type 0) (cs : List Catalogue) → (¬ SomeOf P cs) ↔ Every (λ c. ¬ P c) cs
none_of P [] = (λ h. tt, λ h x. x)
none_of P (c ∷ cs) =
    let rest = none_of P cs in
    (λ h. (λ x. h (inl x), rest.0 (λ x. h (inr x))), λ h x. elim x [ inl y ↦ h.0 y | inr y ↦ rest.1 h.1 y ])

pub implications : (d c : Catalogue) (n : List ℕ) (cs : List Catalogue) (qs : List (Sort × Key)) (f g : Form) (plan : PlanForm) (vs : List PlannedView) → IsWellFormed d → AreParts d n (c ∷ cs)
    → IsPlanOf d [] (for_some qs (without f g)) plan → DistributesBy d n vs plan
    → IsTruth d (for_all qs (implies f g)) ↔ Every (λ e. ¬ IsTruth e (for_some qs (without f g))) (c ∷ cs)
implications d c n cs qs f g plan vs w a x k =
    let some = truths d c n cs (for_some qs (without f g)) plan vs w a x k in
    let whole = no_counterexample d qs f g origin in
    let none = none_of (λ e. IsTruth e (for_some qs (without f g))) (c ∷ cs) in
    (λ h. none.0 (λ y. whole.0 h (some.1 y)), λ h. whole.1 (λ y. none.1 h (some.0 y)))
