use Rattle.std.proofs.Common.{subst}
use Rattle.ded_model.specs.Known.{IsWellFormed}
use Rattle.ded_catalog.specs.State.{catalogue_of}
use Rattle.ded_catalog.specs.Forms.{change_form}
use Rattle.ded_catalog.specs.Snapshots.{snapshot_of}
use Rattle.ded_catalog.proofs.SnapshotTuples.{changed_formed}
use Rattle.ded_catalog.proofs.snapshot.Snapshot.formed.Goals as goal

pub returns : goal.returns
unfolding snapshot_of
returns c =
    subst (λ s. IsWellFormed (snapshot_of s)) c.self.view_is
    (changed_formed (catalogue_of c.self.inside.catalogue.now) (change_form c.self.inside.change) c.formed.ensures c.self.invariant)
