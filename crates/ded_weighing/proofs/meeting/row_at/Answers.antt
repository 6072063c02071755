use Rattle.std.proofs.Common.{SFits, rules, subst, ap, ◌∙◌}
use Rattle.std.specs.Int.{w128}
use Rattle.std.proofs.lemmas.Int.{to_z-of_z}
use Rattle.ded_model.specs.Constraint.{LinearConstraint}
use Rattle.ded_weighing.proofs.Meetings.{AreTold, row_told}
use Rattle.ded_weighing.proofs.meeting.row_at.Goals as goal

pub returns : goal.returns
returns c =
    let fits : SFits w128 c.in_ok-constant.constant = search rules in
    let told : AreTold c.deref.result.now c.in_ok-constant.constant c.list.result.now c.with_coefs.result = simp to_z-of_z at c.with_coefs.ensures in
    row_told c.args.witness.now.values.items c.args.witness.now.denominator c.args.row.now c.in_ok-constant.constant c.with_coefs.result c.requires c.in_ok-constant.ensures
    (subst (λ cs. AreTold c.args.witness.now.values.items c.in_ok-constant.constant cs c.with_coefs.result) (c.list.ensures.value ∙ ap (λ (r : LinearConstraint). r.coefs) c.row.view_is)
    (subst (λ vs. AreTold vs c.in_ok-constant.constant c.list.result.now c.with_coefs.result) c.deref.ensures.value told))
