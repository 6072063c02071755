use Rattle.std.proofs.Common.{◌≡◌, ◌==◌, [], true, List, length, sym, ap, ap₂, ◌∙◌, subst}
use Rattle.std.specs.Prelude.{ℤ}
use Rattle.ded_model.specs.declared.slot.Slot.{Slot}
use Rattle.ded_model.specs.Constraint.{LinearConstraint}
use Rattle.ded_model.specs.Normal.{is_true_with}
use Rattle.ded_row.proofs.Forms.{none_there}
use Rattle.ded_elimination.specs.Keeping.{Keeps}
use Rattle.ded_elimination.proofs.Keeps.{keeps_constant, keeps_added, keeps_weaker}
use Rattle.ded_elimination.proofs.keeping.keep.Goals as goal

pub returns-then-is_empty-clause-keeps : goal.returns-then-is_empty-clause-keeps
returns-then-is_empty-clause-keeps c =
    let coefs : c.list.result.now ≡ c.args.row.coefs = c.list.ensures.value ∙ ap (λ (r : LinearConstraint). r.coefs) c.row.view_is in
    let empty : (length c.args.row.coefs == 0) ≡ true = ap (λ (cs : List (Slot × ℤ)). length cs == 0) (sym coefs) ∙ sym c.if-is_empty.ensures in
    let none : c.args.row.coefs ≡ [] = none_there c.args.row.coefs empty in
    keeps_constant c.args.row c.args.out.now.rows.items c.is_truth.result none c.requires.normal
    (c.is_truth.ensures ∙ ap₂ is_true_with (ap (λ (r : LinearConstraint). r.op) c.row.view_is) (sym none))

pub returns-in_ok-push-in-Nothing-clause-keeps : goal.returns-in_ok-push-in-Nothing-clause-keeps
returns-in_ok-push-in-Nothing-clause-keeps c =
    subst (Keeps c.args.row c.args.out.now.rows.items true) (sym c.in_ok-push-in-Nothing.ensures) (keeps_added c.args.row c.args.out.now.rows.items)

pub returns-in-Weaker-clause-keeps : goal.returns-in-Weaker-clause-keeps
returns-in-Weaker-clause-keeps c =
    let h = c.in-Weaker.ensures in
    keeps_weaker c.args.row c.args.out.now.rows.items c.in-Weaker.place h.0 h.1
