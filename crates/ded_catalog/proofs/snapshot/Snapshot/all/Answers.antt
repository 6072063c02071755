use Rattle.std.proofs.Common.{◌≡◌, None, Some, ap, ◌∙◌, subst}
use Rattle.std.specs.Option.{option_map}
use Rattle.ded_model.specs.Catalogue.{tuples_of}
use Rattle.ded_model.specs.Entries.{entry_of, relation_in}
use Rattle.ded_packed.specs.Lent.{lent}
use Rattle.ded_catalog.specs.State.{catalogue_of}
use Rattle.ded_catalog.specs.Changing.{inserted_in, deleted_in, without_number, with_last}
use Rattle.ded_catalog.specs.Forms.{change_form}
use Rattle.ded_relation.specs.Nearby.{numbered}
use Rattle.ded_catalog.specs.Snapshots.{snapshot_of}
use Rattle.ded_catalog.proofs.SnapshotTuples.{read_with, tuples-changed}
use Rattle.ded_catalog.proofs.snapshot.Snapshot.all.Goals as goal

pub returns-in_default : goal.returns-in_default
unfolding snapshot_of
returns-in_default c =
    let n = c.args.name.now in
    let old = catalogue_of c.self.inside.catalogue.now in
    let x = change_form c.self.inside.change in
    subst (λ s. None ≡ option_map tuples_of (relation_in (entry_of (snapshot_of s).entries n))) c.self.view_is
    (ap (read_with (deleted_in x n) (inserted_in x n)) (subst (λ o. option_map (λ ts. ts.now.entries) o ≡ relation_in (entry_of old.entries n)) c.in_default.is c.stored.ensures) ∙ tuples-changed old x n)

pub returns : goal.returns
unfolding snapshot_of
returns c =
    let n = c.args.name.now in
    let old = catalogue_of c.self.inside.catalogue.now in
    let x = change_form c.self.inside.change in
    let us = numbered c.in_ok-list.list.items in
    let is : lent c.in_ok-with_inserted.field-0.items ≡ with_last (tuples_of (without_number (deleted_in x n) us)) (inserted_in x n) =
    c.in_ok-with_inserted.ensures ∙ (λ i. with_last (c.in_ok-left.ensures i) (c.inserted-inserted.ensures i)) ∙ ap (λ o. with_last (tuples_of (without_number o us)) (inserted_in x n)) c.deleted.ensures in
    subst (λ s. Some (lent c.in_ok-with_inserted.field-0.items) ≡ option_map tuples_of (relation_in (entry_of (snapshot_of s).entries n))) c.self.view_is
    (ap Some is ∙ ap (λ ts. read_with (deleted_in x n) (inserted_in x n) (Some ts)) c.in_ok-list.ensures
    ∙ ap (read_with (deleted_in x n) (inserted_in x n)) (subst (λ o. option_map (λ ts. ts.now.entries) o ≡ relation_in (entry_of old.entries n)) c.in-Some.is c.stored.ensures) ∙ tuples-changed old x n)
