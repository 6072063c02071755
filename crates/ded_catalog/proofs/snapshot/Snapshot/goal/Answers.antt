use Rattle.std.proofs.Common.{sym, ap, ◌∙◌}
use Rattle.std.specs.Option.{option_map}
use Rattle.ded_model.specs.Entries.{entry_of, view_in}
use Rattle.ded_model.specs.Slotted.{goal_of}
use Rattle.ded_catalog.specs.State.{catalogue_of}
use Rattle.ded_catalog.specs.Forms.{change_form}
use Rattle.ded_catalog.specs.Snapshots.{snapshot_of}
use Rattle.ded_catalog.proofs.SnapshotTuples.{view-changed}
use Rattle.ded_catalog.proofs.snapshot.Snapshot.goal.Goals as goal

pub returns : goal.returns
unfolding snapshot_of
returns c =
    c.goal.ensures
    ∙ ap (option_map (λ v. goal_of v.0 v.1)) (sym (view-changed (catalogue_of c.self.inside.catalogue.now) (change_form c.self.inside.change) c.args.name.now))
    ∙ ap (λ s. option_map (λ v. goal_of v.0 v.1) (view_in (entry_of (snapshot_of s).entries c.args.name.now))) c.self.view_is
