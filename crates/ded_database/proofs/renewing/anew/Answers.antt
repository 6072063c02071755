use Rattle.ded_genrel.proofs.Items.{all_weaker}
use Rattle.ded_query.specs.Gathering.{IsGivenOf}
use Rattle.ded_database.specs.Changes.{before, after, inserted_tuple}
use Rattle.ded_database.specs.Held.{IsHeld}
use Rattle.ded_database.proofs.ListsStaying.{has_others}
use Rattle.ded_database.proofs.Views.{mark_plan}
use Rattle.ded_database.proofs.renewing.anew.Goals as goal

pub planned_view-requires-clause-plan : goal.planned_view-requires-clause-plan
planned_view-requires-clause-plan g c =
    let x = has_others (before c.args.renewal.now.change.now) (after c.args.renewal.now.change.now) c.args.renewal.now.change.now.name.now (inserted_tuple c.args.renewal.now.change.now) c.requires.change in
    mark_plan (before c.args.renewal.now.change.now) (after c.args.renewal.now.change.now) c.args.renewal.now.change.now.name.now x c.args.renewal.now.mark.now c.requires.mark

pub planned_view-requires-clause-held : goal.planned_view-requires-clause-held
planned_view-requires-clause-held g c = all_weaker (IsHeld (after c.args.renewal.now.change.now)) (IsGivenOf (after c.args.renewal.now.change.now)) c.args.held.now (λ r k. k.given) c.requires.held
