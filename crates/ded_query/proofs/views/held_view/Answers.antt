use Rattle.std.proofs.lemmas.Result.{IfOk-weaker}
use Rattle.ded_catalog.specs.Snapshots.{snapshot_of}
use Rattle.ded_query.proofs.Entries.{view_known, held_as}
use Rattle.ded_query.proofs.views.held_view.Goals as goal

pub view_relation-requires : goal.view_relation-requires
view_relation-requires c = view_known (snapshot_of c.args.snapshot.now) c.args.name.now c.requires.goal c.formed.ensures c.requires.view

pub returns : goal.returns
returns c = IfOk-weaker c.view_relation.result _ _ (λ r k. held_as (snapshot_of c.args.snapshot.now) c.args.name.now c.args.tuples c.formed.ensures c.requires r k) c.view_relation.ensures
