use Rattle.ded_catalog.specs.Snapshots.{snapshot_of}
use Rattle.ded_query.proofs.Entries.{known_heading}
use Rattle.ded_query.proofs.views.view_relation.Goals as goal

pub unreachable-requires : goal.unreachable-requires
unreachable-requires c = known_heading (snapshot_of c.args.snapshot.now) c.args.name.now c.requires c.in_default.ensures
