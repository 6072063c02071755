use Rattle.std.proofs.Common.{rules, ◌≡◌, List, [], ◌∷◌, sym, subst}
use Rattle.std.specs.List.{AllByRecursion}
use Rattle.ded_model.specs.declared.plan.Plan.{Plan, Union}
use Rattle.ded_model.specs.declared.plan.Plan.TheFolds.{fold-roll-Plan, fold_out-Plan}
use Rattle.ded_model.specs.declared.plan.Plan.TheViews.{the_lemmas}
use Rattle.ded_model.specs.Logic.{AllAtomsOf, some_of}
use Rattle.ded_model.specs.PlanForm.{plan_form, plan_forms}
use Rattle.ded_model.specs.Row.{Atom}
use Rattle.ded_algebra.specs.Evaluation.{IsAnyAtom, IsScannable, IsEvaluable}
use Rattle.ded_eval.proofs.Parts.{atoms-push}
use Rattle.ded_trials.proofs.joins.union.Goals as goal

any_atoms : (t : List Atom) → AllByRecursion IsAnyAtom t
any_atoms [] = tt
any_atoms (a ∷ t) = (tt, any_atoms t)

pub loop-tuple-init : goal.loop-tuple-init
loop-tuple-init c d = subst (λ (ps : List Plan). AllAtomsOf (IsScannable IsAnyAtom d) (plan_forms ps)) (sym c.new-parts.ensures.items) tt

pub loop-tuple-preserved : goal.loop-tuple-preserved
loop-tuple-preserved c d =
    subst (λ (ps : List Plan). AllAtomsOf (IsScannable IsAnyAtom d) (plan_forms ps)) (sym c.in_ok-push.ensures.items)
    (atoms-push (IsScannable IsAnyAtom d) c.loop-tuple.parts.items c.in_ok-row.field-0 (c.loop-tuple.invariant d)
    (subst (IsEvaluable IsAnyAtom d) (sym c.in_ok-row.ensures) (any_atoms _)))

pub returns : goal.returns
returns c d =
    let e : plan_form (Union c.loop-tuple.parts) ≡ some_of (plan_forms c.loop-tuple.parts.items) = search (rules, the_lemmas, fold-roll-Plan, fold_out-Plan) in
    subst (IsEvaluable IsAnyAtom d) (sym e) (c.loop-tuple.invariant d)
