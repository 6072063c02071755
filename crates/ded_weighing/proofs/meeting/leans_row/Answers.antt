use Rattle.std.proofs.Common.{SFits, rules, ◌∙◌, ap}
use Rattle.std.specs.Int.{w128}
use Rattle.std.proofs.lemmas.Int.{to_z-of_z}
use Rattle.ded_model.specs.Constraint.{LinearConstraint}
use Rattle.ded_model.specs.Row.{sign_meets}
use Rattle.ded_weighing.specs.Meeting.{weakly}
use Rattle.ded_weighing.proofs.Meetings.{leant_with}
use Rattle.ded_weighing.proofs.meeting.leans_row.Goals as goal

pub returns-in-Some : goal.returns-in-Some
returns-in-Some c =
    let fits : SFits w128 c.in-Some.sum = search rules in
    let met = simp to_z-of_z at c.meets_zero.ensures in
    met ∙ ap (λ op. sign_meets op c.in-Some.sum) c.weakly.ensures ∙ ap (λ (r : LinearConstraint). sign_meets (weakly r.op) c.in-Some.sum) c.row.view_is
    ∙ leant_with c.args.witness.now.values.items c.args.witness.now.denominator c.args.row.now c.in-Some.sum c.in-Some.ensures
