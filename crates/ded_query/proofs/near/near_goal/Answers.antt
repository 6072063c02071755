use Rattle.std.proofs.Common.{subst}
use Rattle.ded_model.specs.Goal.{goal_form}
use Rattle.ded_plan.specs.declared.scans.ScanWithin.{ScanWithin}
use Rattle.ded_catalog.specs.Snapshots.{snapshot_of}
use Rattle.ded_query.specs.Gathering.{IsViewGoal}
use Rattle.ded_query.proofs.Entries.{view_goal}
use Rattle.ded_query.proofs.near.near_goal.Goals as goal

pub returns-clause-view : goal.returns-clause-view
returns-clause-view c =
    let cat = snapshot_of c.args.snapshot.now in
    let g = goal_form c.in_ok-goal.goal.now in
    subst (λ (s : ScanWithin). IsViewGoal cat s.name g) c.scan.view_is (view_goal cat _ g c.in_ok-goal.ensures)
