use Rattle.std.proofs.Common.{◌≡◌, List, [], ◌∙◌, ap, sym, subst}
use Rattle.std.specs.List.{AllByRecursion}
use Rattle.ded_model.specs.declared.slot.Slot.{Slot}
use Rattle.ded_model.specs.Constraint.{LinearConstraint}
use Rattle.ded_theory.specs.declared.answers.Eliminated.{Eliminated}
use Rattle.ded_theory.specs.declared.answers.Eliminated.TheVariants.{Conj}
use Rattle.ded_theory.specs.declared.answers.Verdict.TheVariants.{Empty, Inhabited, Unknown}
use Rattle.ded_elimination.specs.LinearAtoms.{IsLinearAtom}
use Rattle.ded_shapes.specs.Projections.{IsWithout, with_all_others}
use Rattle.ded_shapes.proofs.Without.{never_nowhere, left_nowhere, left_somewhere, projection, verdict_there}
use Rattle.ded_shapes.proofs.projecting.rows_projected.Goals as goal

pub returns-in_default-clause-is : goal.returns-in_default-clause-is
returns-in_default-clause-is c =
    never_nowhere c.deref-2.result.now c.args.rows.items (subst (λ (e : Eliminated LinearConstraint). IsWithout c.deref-2.result.now c.args.rows.items e) c.in_default.is c.in_ok-left.ensures.is)

pub refute-requires : goal.refute-requires
refute-requires c =
    let left : IsWithout c.deref-2.result.now c.args.rows.items (Conj c.in-Conj.left) = subst (λ (e : Eliminated LinearConstraint). IsWithout c.deref-2.result.now c.args.rows.items e) c.in-Conj.is c.in_ok-left.ensures.is in
    record { normal = subst (AllByRecursion IsLinearAtom) (sym c.deref-3.ensures.value) left.normal }

pub returns-in-Empty-clause-is : goal.returns-in-Empty-clause-is
returns-in-Empty-clause-is c =
    let left : IsWithout c.deref-2.result.now c.args.rows.items (Conj c.in-Conj.left) = subst (λ (e : Eliminated LinearConstraint). IsWithout c.deref-2.result.now c.args.rows.items e) c.in-Conj.is c.in_ok-left.ensures.is in
    left_nowhere c.deref-2.result.now c.args.rows.items c.in-Conj.left left
    (verdict_there c.in-Conj.left.items c.deref-3.result.now c.in_ok-refute.field-0 Empty c.deref-3.ensures.value c.in-Empty.is c.in_ok-refute.ensures.verdict)

pub returns-in-Inhabited-clause-is : goal.returns-in-Inhabited-clause-is
returns-in-Inhabited-clause-is c =
    let left : IsWithout c.deref-2.result.now c.args.rows.items (Conj c.in-Conj.left) = subst (λ (e : Eliminated LinearConstraint). IsWithout c.deref-2.result.now c.args.rows.items e) c.in-Conj.is c.in_ok-left.ensures.is in
    let others : c.deref-2.result.now ≡ with_all_others c.args.x c.args.y [] c.args.rows.items =
    c.deref-2.ensures.value ∙ c.in_ok-others.ensures ∙ ap (with_all_others c.args.x c.args.y []) c.deref.ensures.value in (
      left_somewhere c.deref-2.result.now c.args.rows.items c.in-Conj.left left
          (verdict_there c.in-Conj.left.items c.deref-3.result.now c.in_ok-refute.field-0 Inhabited c.deref-3.ensures.value c.in-Inhabited.is c.in_ok-refute.ensures.verdict),
      projection c.args.x c.args.y c.args.rows.items c.in-Conj.left (subst (λ (ss : List Slot). IsWithout ss c.args.rows.items (Conj c.in-Conj.left)) others left),
    )

pub returns-clause-wide : goal.returns-clause-wide
returns-clause-wide c =
    let left : IsWithout c.deref-2.result.now c.args.rows.items (Conj c.in-Conj.left) = subst (λ (e : Eliminated LinearConstraint). IsWithout c.deref-2.result.now c.args.rows.items e) c.in-Conj.is c.in_ok-left.ensures.is in
    λ e. left.wide (verdict_there c.in-Conj.left.items c.deref-3.result.now c.in_ok-refute.field-0 Unknown c.deref-3.ensures.value c.in-Unknown.is c.in_ok-refute.ensures.verdict)
