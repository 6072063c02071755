use Rattle.std.proofs.Common.{rules, ◌≡◌, List, sym, subst}
use Rattle.ded_model.specs.declared.plan.Plan.{Plan, Join}
use Rattle.ded_model.specs.declared.plan.Plan.TheFolds.{fold-roll-Plan, fold_out-Plan}
use Rattle.ded_model.specs.declared.plan.Plan.TheViews.{the_lemmas}
use Rattle.ded_model.specs.Logic.{AllAtomsOf, every_of}
use Rattle.ded_model.specs.PlanForm.{plan_form, plan_forms}
use Rattle.ded_algebra.specs.Evaluation.{IsAnyAtom, IsScannable, IsEvaluable}
use Rattle.ded_eval.proofs.Parts.{atoms-push}
use Rattle.ded_trials.proofs.joins.twice.Goals as goal

pub returns : goal.returns
returns c d =
    let e : plan_form (Join c.push-2.new.self) ≡ every_of (plan_forms c.push-2.new.self.items) = search (rules, the_lemmas, fold-roll-Plan, fold_out-Plan) in
    subst (IsEvaluable IsAnyAtom d) (sym e)
    (subst (λ (ps : List Plan). AllAtomsOf (IsScannable IsAnyAtom d) (plan_forms ps)) (sym c.in_ok-push-2.ensures.items)
    (atoms-push (IsScannable IsAnyAtom d) c.push.new.self.items c.in_ok-union-2.field-0
    (subst (λ (ps : List Plan). AllAtomsOf (IsScannable IsAnyAtom d) (plan_forms ps)) (sym c.in_ok-push.ensures.items)
    (atoms-push (IsScannable IsAnyAtom d) c.new-parts.result.items c.in_ok-union.field-0
    (subst (λ (ps : List Plan). AllAtomsOf (IsScannable IsAnyAtom d) (plan_forms ps)) (sym c.new-parts.ensures.items) tt) (c.in_ok-union.ensures d)))
    (c.in_ok-union-2.ensures d)))
