use Rattle.std.proofs.Common.{refl, sym, ◌∙◌, subst}
use Rattle.std.specs.List.{AllByRecursion}
use Rattle.std.proofs.lemmas.Result.{IfOk-weaker}
use Rattle.ded_model.specs.Normal.{IsNormalTheme}
use Rattle.ded_model.specs.PlanForm.{plan_form}
use Rattle.ded_elimination.specs.LinearAtoms.{IsLinearAtom}
use Rattle.ded_theory.specs.Both.{IsByKind}
use Rattle.ded_elimination.proofs.Shared.{atoms_normal}
use Rattle.ded_eval.proofs.PlansRead.{evaluable_any}
use Rattle.ded_eval.proofs.PlansWritten.{within_tuple}
use Rattle.ded_eval.proofs.over_atoms.eval_within.Goals as goal

pub evaluate_within-requires-clause-plan : goal.evaluate_within-requires-clause-plan
evaluate_within-requires-clause-plan g c = evaluable_any (g.R.Relations.catalogue c.args.relations.now) (plan_form c.args.plan.now) c.requires

pub evaluate_within-requires-clause-window : goal.evaluate_within-requires-clause-window
evaluate_within-requires-clause-window g c = subst (AllByRecursion (IsByKind IsLinearAtom IsNormalTheme)) (sym c.deref.ensures.value) (atoms_normal c.within.inside.atoms.items c.within.invariant)

pub returns-in-Err-Wide-clause-is : goal.returns-in-Err-Wide-clause-is
returns-in-Err-Wide-clause-is g c = IfOk-weaker c.evaluate_orders.result _ _ (λ r k. record { holds = λ p i inside. k.holds p i refl; slots = k.slots; lines = k.lines }) c.evaluate_orders.ensures.is

pub returns-in_default-2-clause-is : goal.returns-in_default-2-clause-is
returns-in_default-2-clause-is g c =
    IfOk-weaker c.evaluate_within.result _ _
    (λ r k. within_tuple (g.R.Relations.catalogue c.args.relations.now) (plan_form c.args.plan.now) c.args.within.now c.deref.result.now _ _ _ (c.deref.ensures.value ∙ c.within.view_is) k) c.evaluate_within.ensures.is
