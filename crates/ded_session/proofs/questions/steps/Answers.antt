-- The goal of an accepted formula is normal, and its plan is one of the formula.
use Rattle.std.proofs.Common.{refl}
use Rattle.ded_model.specs.Entries.{known}
use Rattle.ded_model.specs.Goal.{goal_form}
use Rattle.ded_model.specs.PlanForm.{plan_form}
use Rattle.ded_session.proofs.Asking.{normal_question, plan_of_question}
use Rattle.ded_session.proofs.questions.steps.Goals as goal

pub plan-requires : goal.plan-requires
plan-requires c =
    let q = c.requires in
    record { normal = normal_question q.0 q.1 q.2 (goal_form c.args.goal.now) (c.normal_goals.ensures.accepted (known q.0) q.1 q.2) q.3 }

pub returns-clause-does : goal.returns-clause-does
returns-clause-does c = λ d h f q. (plan_of_question d h f (goal_form c.args.goal.now) (plan_form c.in_ok-plan.field-0) q c.in_ok-plan.ensures, refl)
