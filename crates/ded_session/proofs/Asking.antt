-- Questions that a formula asks: what they are by slots, and what is known of them where they are accepted.
use Rattle.std.proofs.Common.{◌≡◌, List, [], refl, sym, subst}
use Rattle.ded_model.specs.declared.command.Refusal.TheVariants.{Many, Twice, Unknown, Arity, Unbound, WrongSort}
use Rattle.ded_model.specs.declared.goal.Goal.{Goal}
use Rattle.ded_model.specs.declared.name.Column.{Column}
use Rattle.ded_model.specs.Catalogue.{Catalogue}
use Rattle.ded_model.specs.Command.{CommandForm, ask, query, explain}
use Rattle.ded_model.specs.Entries.{known}
use Rattle.ded_model.specs.Form.{Form}
use Rattle.ded_model.specs.Goal.{GoalForm, goal_form}
use Rattle.ded_model.specs.Known.{IsAccepted}
use Rattle.ded_model.specs.NormalGoal.{IsNormalGoal}
use Rattle.ded_model.specs.PlanForm.{PlanForm}
use Rattle.ded_model.specs.Slotted.{goal_of}
use Rattle.ded_plan.specs.Planned.{IsPlanned}
use Rattle.ded_plan.specs.Plans.{IsPlanOf}
use Rattle.ded_plan.proofs.PlansOfFormulas.{plan_of-formula}
use Rattle.ded_query.specs.Questions.{IsQuestion}
use Rattle.ded_resolve.specs.declared.checked.Checked.{Checked}
use Rattle.ded_resolve.specs.declared.checked.Checked.TheVariants as checked
use Rattle.ded_sorts.specs.Checks.{HasNoCause}
use Rattle.ded_resolve.specs.Resolved.{IsResolved}
use Rattle.ded_session.specs.Carrying.{IsReady}
use Rattle.ded_session.proofs.Accepted.{accepted}

-- ---- commands that ask by a formula

-- the formula of the command, whose goal over the heading this is
pub record Asks (c : Catalogue) (x : CommandForm) (made : Form → CommandForm) (h : List Column) (g : Goal) : Type 0 where
  pub formula : Form
  pub is : x ≡ made formula
  pub question : IsQuestion c h (goal_form g) formula

module _ (c : Catalogue) where
  ask_is : (x : CommandForm) (g : Goal) → IsResolved c x (checked.Ask g) → HasNoCause c x → Asks c x ask [] g
  ask_is (ask f) g r a = record {
    formula = f;
    is = refl;
    question = record { goal = r; accepted = accepted c [] f (a Many refl) refl (a Unknown refl) (a Arity refl) (a Unbound refl) (a WrongSort refl) };
  }
  ask_is _ g r a = absurd r

  query_is : (x : CommandForm) (h : List Column) (g : Goal) → IsResolved c x (checked.Query h g) → HasNoCause c x → Asks c x (query h) h g
  query_is (query k f) h g r a = subst (λ (i : List Column). Asks c (query k f) (query i) i g) (sym r.0) (record {
    formula = f;
    is = refl;
    question = record { goal = r.1; accepted = accepted c k f (a Many refl) (a Twice refl) (a Unknown refl) (a Arity refl) (a Unbound refl) (a WrongSort refl) };
  })
  query_is _ h g r a = absurd r

  explain_is : (x : CommandForm) (h : List Column) (g : Goal) → IsResolved c x (checked.Explain h g) → HasNoCause c x → Asks c x (explain h) h g
  explain_is (explain k f) h g r a = subst (λ (i : List Column). Asks c (explain k f) (explain i) i g) (sym r.0) (record {
    formula = f;
    is = refl;
    question = record { goal = r.1; accepted = accepted c k f (a Many refl) (a Twice refl) (a Unknown refl) (a Arity refl) (a Unbound refl) (a WrongSort refl) };
  })
  explain_is _ h g r a = absurd r

  module _ (k : Checked) where
    pub written_ask : (g : Goal) → k ≡ checked.Ask g → (x : CommandForm) → IsResolved c x k → HasNoCause c x → Asks c x ask [] g
    written_ask g e x r a = ask_is x g (subst (IsResolved c x) e r) a

    pub written_query : (h : List Column) (g : Goal) → k ≡ checked.Query h g → (x : CommandForm) → IsResolved c x k → HasNoCause c x → Asks c x (query h) h g
    written_query h g e x r a = query_is x h g (subst (IsResolved c x) e r) a

    pub written_explain : (h : List Column) (g : Goal) → k ≡ checked.Explain h g → (x : CommandForm) → IsResolved c x k → HasNoCause c x → Asks c x (explain h) h g
    written_explain h g e x r a = explain_is x h g (subst (IsResolved c x) e r) a

    -- some command asks so
    pub ready_ask : (g : Goal) → IsReady c k → k ≡ checked.Ask g → (f : Form) × IsQuestion c [] (goal_form g) f
    ready_ask g ready e = let a = written_ask g e ready.written ready.resolved ready.accepted in (a.formula, a.question)

    pub ready_query : (h : List Column) (g : Goal) → IsReady c k → k ≡ checked.Query h g → (f : Form) × IsQuestion c h (goal_form g) f
    ready_query h g ready e = let a = written_query h g e ready.written ready.resolved ready.accepted in (a.formula, a.question)

    pub ready_explain : (h : List Column) (g : Goal) → IsReady c k → k ≡ checked.Explain h g → (d : Catalogue) × (i : List Column) × (f : Form) × IsQuestion d i (goal_form g) f
    ready_explain h g ready e = let a = written_explain h g e ready.written ready.resolved ready.accepted in (c, h, a.formula, a.question)

-- ---- plans

pub normal_question : (c : Catalogue) (h : List Column) (f : Form) (g : GoalForm) → (IsAccepted (known c) h f → IsNormalGoal (goal_of h f)) → IsQuestion c h g f → IsNormalGoal g
normal_question c h f g normal q = subst IsNormalGoal (sym q.goal) (normal q.accepted)

pub plan_of_question : (c : Catalogue) (h : List Column) (f : Form) (g : GoalForm) (plan : PlanForm) → IsQuestion c h g f → IsPlanned g plan → IsPlanOf c h f plan
plan_of_question c h f g plan q p = plan_of-formula c h f plan q.accepted (subst (λ (x : GoalForm). IsPlanned x plan) q.goal p)
