-- What a plan over gathered relations is evaluated to.
use Rattle.std.proofs.Common.{◌≡◌, ℕ, Bool, true, List, refl, sym, ◌∙◌, subst, true≢false}
use Rattle.std.specs.Prelude.{◌↔◌, IsTrue}
use Rattle.std.specs.List.{AllByRecursion}
use Rattle.ded_model.specs.declared.slot.Slot.{Slot}
use Rattle.ded_model.specs.Point.{slot, Point, IsPoint}
use Rattle.ded_model.specs.Row.{Atom, tuple_holds, tuples_hold, tuples_mention}
use Rattle.ded_model.specs.Catalogue.{Catalogue, GoalHolds, GivenHolds}
use Rattle.ded_model.specs.Form.{Form}
use Rattle.ded_model.specs.Goal.{GoalForm}
use Rattle.ded_model.specs.Lines.{IsSubset, tuples_lines}
use Rattle.ded_model.specs.Logic.{AllAtoms}
use Rattle.ded_model.specs.Measure.{measures, stored_measures, goal_clashes, plan_clashes}
use Rattle.ded_model.specs.PlanForm.{PlanForm}
use Rattle.ded_model.specs.Uses.{plan_uses}
use Rattle.ded_model.proofs.Growth.{plan_lines-grow, plan_clashes-grow}
use Rattle.ded_algebra.specs.Evaluation.{IsEvaluation, IsEvaluationWithin}
use Rattle.ded_plan.specs.declared.scans.ScanWithin.{ScanWithin}
use Rattle.ded_plan.specs.Scans.{AgreesAt, IsReadWithin}
use Rattle.ded_plan.specs.Planned.{IsPlanned}
use Rattle.ded_plan.specs.Plans.{IsScanOf}
use Rattle.ded_algebra.specs.declared.given.GivenRelation.{GivenRelation}
use Rattle.ded_algebra.specs.Given.{given_catalogue, has_name}
use Rattle.ded_views.proofs.PlansAlike.{read_alike}
use Rattle.ded_query.specs.Gathering.{IsGivenOf, IsEvaluated}
use Rattle.ded_query.proofs.Evaluable.{scanned_same}
use Rattle.ded_query.specs.Windows.{IsShapedOf, IsEvaluatedWithin}
use Rattle.ded_query.proofs.GivenNames.{shaped, given_lines, given_clash}

module _ (c : Catalogue) (g : GoalForm) (plan : PlanForm) (rs : List GivenRelation) (k : AllByRecursion (IsGivenOf c) rs) (p : IsPlanned g plan) where
  -- it is what the goal is over the catalogue
  pub evaluated_of : (f : Form) → AllAtoms (IsScanOf c f) plan → (ts : List (List Atom)) → ((n : List ℕ) → plan_uses n plan ≡ true → has_name n rs ≡ true)
      → IsEvaluation (given_catalogue rs) plan (tuples_hold ts) (tuples_mention ts) (tuples_lines ts) → IsEvaluated c g ts
  evaluated_of f scans ts u e = record {
    holds = λ q i.
        let here = e.holds q i refl in
        let alike = read_alike (given_catalogue rs) c plan q i (scanned_same c f rs k plan scans u) in
        let goal = p.holds c q i in
        (λ x. goal.1 (alike.0 (here.0 x)), λ x. here.1 (alike.1 (goal.0 x)));
    slots = λ s h. p.slots (slot s) (e.slots s h);
    lines = λ l i. p.lines (measures c) l (plan_lines-grow (stored_measures (given_catalogue rs)) (measures c) (given_lines c rs (shaped c rs k)) plan l (e.lines l i));
  }

module _ (c : Catalogue) (g : GoalForm) (plan : PlanForm) (rs : List GivenRelation) (k : AllByRecursion (IsShapedOf c) rs) (p : IsPlanned g plan) where
  -- it clashes only where the goal does
  pub clash_of_goal : plan_clashes (stored_measures (given_catalogue rs)) plan ≡ true → goal_clashes (measures c) g ≡ true
  clash_of_goal e =
      p.clashes (measures c) (plan_clashes-grow (stored_measures (given_catalogue rs)) (measures c) (given_lines c rs k) (λ n h. absurd (true≢false (sym h ∙ given_clash rs n))) plan e)

  -- where each of its scans agrees within its tuple, it is what the goal is at the points inside
  pub evaluated_inside : (t : List Atom) (inside : Point → Bool) (ss : List ScanWithin) (ts : List (List Atom)) → IsReadWithin plan t ss → AllByRecursion (AgreesAt (given_catalogue rs) c) ss
      → ((q : Point) → inside q ≡ true → IsTrue (tuple_holds t q)) → IsEvaluationWithin (given_catalogue rs) plan inside (tuples_hold ts) (tuples_mention ts) (tuples_lines ts) → IsEvaluatedWithin c g inside ts
  evaluated_inside t inside ss ts r a into e = record {
    holds = λ q i w.
        let here = e.holds q i w in
        let alike = r.alike (given_catalogue rs) c a q i (into q w) in
        let goal = p.holds c q i in
        (λ x. goal.1 (alike.0 (here.0 x)), λ x. here.1 (alike.1 (goal.0 x)));
    slots = λ s h. p.slots (slot s) (e.slots s h);
    lines = λ l i. p.lines (measures c) l (plan_lines-grow (stored_measures (given_catalogue rs)) (measures c) (given_lines c rs k) plan l (e.lines l i));
  }

-- what is right everywhere
pub evaluated_everywhere : (c : Catalogue) (g : GoalForm) (ts : List (List Atom)) → IsEvaluatedWithin c g (λ p. true) ts → IsEvaluated c g ts
evaluated_everywhere c g ts e = record { holds = λ p i. e.holds p i refl; slots = e.slots; lines = e.lines }

-- tuples of the same points, with no new slot or line, are evaluated too
pub evaluated_part : (c : Catalogue) (g : GoalForm) (ts us : List (List Atom)) → IsEvaluated c g ts → ((p : Point) → IsPoint p → tuples_hold us p ≡ tuples_hold ts p)
    → ((s : Slot) → tuples_mention us s ≡ true → tuples_mention ts s ≡ true) → IsSubset (tuples_lines us) (tuples_lines ts) → IsEvaluated c g us
evaluated_part c g ts us e same slots lines = record {
  holds = λ p i. subst (λ b. IsTrue b ↔ GoalHolds c g p) (sym (same p i)) (e.holds p i);
  slots = λ s h. e.slots s (slots s h);
  lines = λ l i. e.lines l (lines l i);
}

-- the same of what a plan is evaluated to
pub evaluation_part : (c : Catalogue) (plan : PlanForm) (ts us : List (List Atom)) → IsEvaluation c plan (tuples_hold ts) (tuples_mention ts) (tuples_lines ts)
    → ((p : Point) → IsPoint p → tuples_hold us p ≡ tuples_hold ts p) → ((s : Slot) → tuples_mention us s ≡ true → tuples_mention ts s ≡ true) → IsSubset (tuples_lines us) (tuples_lines ts)
    → IsEvaluation c plan (tuples_hold us) (tuples_mention us) (tuples_lines us)
evaluation_part c plan ts us e same slots lines = record {
  holds = λ p i w. subst (λ b. IsTrue b ↔ GivenHolds c plan p) (sym (same p i)) (e.holds p i w);
  slots = λ s h. e.slots s (slots s h);
  lines = λ l i. e.lines l (lines l i);
}

-- and of what is right inside
pub inside_part : (c : Catalogue) (g : GoalForm) (inside : Point → Bool) (ts us : List (List Atom)) → IsEvaluatedWithin c g inside ts → ((p : Point) → IsPoint p → tuples_hold us p ≡ tuples_hold ts p)
    → ((s : Slot) → tuples_mention us s ≡ true → tuples_mention ts s ≡ true) → IsSubset (tuples_lines us) (tuples_lines ts) → IsEvaluatedWithin c g inside us
inside_part c g inside ts us e same slots lines = record {
  holds = λ p i w. subst (λ b. IsTrue b ↔ GoalHolds c g p) (sym (same p i)) (e.holds p i w);
  slots = λ s h. e.slots s (slots s h);
  lines = λ l i. e.lines l (lines l i);
}
