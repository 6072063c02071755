use Rattle.ded_catalog.specs.State.{catalogue_of}
use Rattle.ded_catalog.specs.Snapshots.{snapshot_of}
use Rattle.ded_catalog.proofs.SnapshotTuples.{without_deletes}
use Rattle.ded_catalog.proofs.snapshot.Snapshot.without_tuple.Goals as goal

pub returns : goal.returns
unfolding snapshot_of
returns c = without_deletes (catalogue_of c.args.catalogue.now) c.args.name.now c.formed.ensures c.args.number c.requires
