use Rattle.std.proofs.Common.{subst}
use Rattle.std.specs.List.{AllByRecursion}
use Rattle.ded_model.specs.ShortRows.{HasShortRows}
use Rattle.ded_catalog.specs.State.{catalogue_of}
use Rattle.ded_catalog.specs.Forms.{change_form}
use Rattle.ded_catalog.specs.Snapshots.{snapshot_of}
use Rattle.ded_catalog.proofs.SnapshotTuples.{changed_short}
use Rattle.ded_catalog.proofs.snapshot.Snapshot.short.Goals as goal

pub returns : goal.returns
unfolding snapshot_of
returns c =
    subst (λ s. AllByRecursion HasShortRows (snapshot_of s).entries) c.self.view_is
    (changed_short (catalogue_of c.self.inside.catalogue.now) (change_form c.self.inside.change) c.short.ensures)
