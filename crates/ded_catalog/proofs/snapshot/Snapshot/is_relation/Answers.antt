use Rattle.std.proofs.Common.{sym, ap, ◌∙◌, is_some}
use Rattle.ded_model.specs.Entries.{entry_of, relation_in}
use Rattle.ded_catalog.specs.State.{catalogue_of}
use Rattle.ded_catalog.specs.Forms.{change_form}
use Rattle.ded_catalog.specs.Snapshots.{snapshot_of}
use Rattle.ded_catalog.proofs.SnapshotTuples.{relation-changed, mapped_there}
use Rattle.ded_catalog.proofs.snapshot.Snapshot.is_relation.Goals as goal

pub returns : goal.returns
unfolding snapshot_of
returns c =
    let n = c.args.name.now in
    let old = catalogue_of c.self.inside.catalogue.now in
    c.is_some.ensures
    ∙ sym (mapped_there (λ ts. ts.now.entries) c.stored.result)
    ∙ ap is_some c.stored.ensures
    ∙ sym (relation-changed old (change_form c.self.inside.change) n)
    ∙ ap (λ s. is_some (relation_in (entry_of (snapshot_of s).entries n))) c.self.view_is
