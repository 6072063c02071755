use Rattle.ded_catalog.specs.State.{catalogue_of}
use Rattle.ded_catalog.specs.Snapshots.{snapshot_of}
use Rattle.ded_catalog.proofs.SnapshotTuples.{with_inserts}
use Rattle.ded_catalog.proofs.snapshot.Snapshot.with_tuple.Goals as goal

pub returns : goal.returns
unfolding snapshot_of
returns c =
    with_inserts (catalogue_of c.args.catalogue.now) c.args.name.now c.formed.ensures c.args.tuple.now
    (record { relation = c.requires.relation; over = c.requires.over; short = c.requires.short; room = c.requires.room })
