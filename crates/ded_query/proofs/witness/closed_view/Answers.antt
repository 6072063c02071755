use Rattle.std.proofs.Common.{◌∙◌, ap}
use Rattle.std.proofs.lemmas.Result.{IfOk-weaker}
use Rattle.ded_model.specs.Goal.{goal_form}
use Rattle.ded_catalog.specs.Snapshots.{snapshot_of}
use Rattle.ded_model.specs.Known.{heading_slots}
use Rattle.ded_query.specs.Closing.{closing}
use Rattle.ded_query.proofs.Entries.{view_goal, view_known, known_heading}
use Rattle.ded_query.proofs.Witnesses.{closed_as}
use Rattle.ded_query.proofs.witness.closed_view.Goals as goal

pub unreachable-requires-in_default-heading : goal.unreachable-requires-in_default-heading
unreachable-requires-in_default-heading c =
    let cat = snapshot_of c.args.snapshot.now in
    let n = c.args.name.now in
    let g = goal_form c.in-Some.goal.now in
    known_heading cat n (view_known cat n g c.formed.ensures (view_goal cat n g c.in-Some.ensures)) c.in_default-heading.ensures

pub returns : goal.returns
returns c =
    let cat = snapshot_of c.args.snapshot.now in
    let n = c.args.name.now in
    let g = goal_form c.in-Some.goal.now in
    IfOk-weaker c.closed_goal.result _ _ (λ x e. closed_as cat n g c.in-Some-heading.heading.now c.formed.ensures (view_goal cat n g c.in-Some.ensures) c.in-Some-heading.ensures (goal_form x) (e ∙ ap (λ h. closing (heading_slots 0 h) (goal_form c.in-Some.goal.now)) (c.deref.ensures.value ∙ c.heading-2.view_is))) c.closed_goal.ensures
