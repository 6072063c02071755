use Rattle.std.proofs.Common.{sym, ap, ◌∙◌}
use Rattle.std.specs.Option.{option_map}
use Rattle.ded_model.specs.Entries.{known}
use Rattle.ded_catalog.specs.State.{catalogue_of}
use Rattle.ded_catalog.specs.Forms.{change_form}
use Rattle.ded_catalog.specs.Snapshots.{snapshot_of}
use Rattle.ded_catalog.proofs.SnapshotTuples.{known-changed}
use Rattle.ded_catalog.proofs.snapshot.Snapshot.heading.Goals as goal

pub returns : goal.returns
unfolding snapshot_of
returns c =
    c.heading.ensures
    ∙ ap (option_map (λ k. k.columns)) (sym (known-changed (catalogue_of c.self.inside.catalogue.now) (change_form c.self.inside.change) c.args.name.now))
    ∙ ap (λ s. option_map (λ k. k.columns) (known (snapshot_of s) c.args.name.now)) c.self.view_is
