use Rattle.std.proofs.Common.{List, [], ◌∷◌, refl, sym, subst}
use Rattle.std.proofs.lemmas.Result.{IfOk-weaker}
use Rattle.ded_model.specs.declared.slot.Slot.{Slot}
use Rattle.ded_model.specs.Constraint.{LinearConstraint}
use Rattle.ded_theory.specs.declared.answers.Eliminated.{Eliminated}
use Rattle.ded_theory.specs.declared.answers.Eliminated.TheVariants.{Never, Conj}
use Rattle.ded_shapes.specs.Projections.{IsWithout}
use Rattle.ded_shapes.proofs.Without.{none_long, untouched, then_less, then_never}
use Rattle.ded_shapes.proofs.projecting.+without.Goals as goal

pub returns-in_default-clause-is : goal.returns-in_default-clause-is
returns-in_default-clause-is t c =
    subst (λ (ss : List Slot). IsWithout ss c.args.rows.items (Conj c.args.rows)) (sym (none_long c.args.slots.now c.in_default.ensures.cases)) (untouched [] c.args.rows c.requires.normal (λ s m. refl))

pub returns-in-Never-clause-is : goal.returns-in-Never-clause-is
returns-in-Never-clause-is t c =
    subst (λ (ss : List Slot). IsWithout ss c.args.rows.items Never) (sym c.in-Some.ensures.cases.0)
    (then_never c.in-Some.slot.now c.in-Some.behind.now c.args.rows.items
    (subst (λ (e : Eliminated LinearConstraint). IsWithout (c.in-Some.slot.now ∷ []) c.args.rows.items e) c.in-Never.is c.in_ok-without_slot.ensures.is))

pub returns-in-Conj-clause-is : goal.returns-in-Conj-clause-is
returns-in-Conj-clause-is t c =
    let w : IsWithout (c.in-Some.slot.now ∷ []) c.args.rows.items (Conj c.in-Conj.left) = subst (λ (e : Eliminated LinearConstraint). IsWithout (c.in-Some.slot.now ∷ []) c.args.rows.items e) c.in-Conj.is c.in_ok-without_slot.ensures.is in
    IfOk-weaker c.without.result (λ e. IsWithout c.in-Some.behind.now c.in-Conj.left.items e) _
    (λ e h. subst (λ (ss : List Slot). IsWithout ss c.args.rows.items e) (sym c.in-Some.ensures.cases.0) (then_less c.in-Some.slot.now c.in-Some.behind.now c.args.rows.items c.in-Conj.left e w h))
    c.without.ensures.is

pub returns-in-Conj-clause-wide : goal.returns-in-Conj-clause-wide
returns-in-Conj-clause-wide t c =
    let w : IsWithout (c.in-Some.slot.now ∷ []) c.args.rows.items (Conj c.in-Conj.left) = subst (λ (e : Eliminated LinearConstraint). IsWithout (c.in-Some.slot.now ∷ []) c.args.rows.items e) c.in-Conj.is c.in_ok-without_slot.ensures.is in
    λ e. w.wide (c.without.ensures.wide e)
