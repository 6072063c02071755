-- The tuples and the heading are those that the catalogue has under the name.
use Rattle.std.proofs.Common.{sym, rules}
use Rattle.ded_catalog.specs.State.{catalogue_of}
use Rattle.ded_model.specs.Entries.{entry_of, known}
use Rattle.ded_sorts.proofs.KnownEntries.{relation_there}
use Rattle.ded_session.proofs.Bounding.{relation_over, box_shown, wide_shown}
use Rattle.ded_session.proofs.Calls.{columns_shown, tuples_shown, list_there}
use Rattle.ded_session.proofs.boxes.bounds.Goals as goal

pub unreachable-requires-in_default-stored : goal.unreachable-requires-in_default-stored
unreachable-requires-in_default-stored c =
    let catalogue = (catalogue_of c.args.catalogue.now) in
    list_there (entry_of catalogue.entries c.args.name.now) (relation_there catalogue c.args.name.now c.formed.ensures c.requires) (sym c.in_default-stored.ensures)

pub extent-requires : goal.extent-requires
extent-requires c =
    let catalogue = (catalogue_of c.args.catalogue.now) in
    relation_over catalogue c.args.name.now c.in-Some.heading.now c.in-Some-stored.tuples.now.entries c.formed.ensures
    (columns_shown (known catalogue c.args.name.now) c.in-Some.heading.now c.in-Some.ensures) c.in-Some-stored.ensures

pub returns-in_err-bounds-clause-wide : goal.returns-in_err-bounds-clause-wide
returns-in_err-bounds-clause-wide c =
    let catalogue = (catalogue_of c.args.catalogue.now) in
    λ e.
    wide_shown catalogue c.args.name.now c.in-Some.heading.now c.in-Some-stored.tuples.now.entries
    (columns_shown (known catalogue c.args.name.now) c.in-Some.heading.now c.in-Some.ensures)
    (tuples_shown (entry_of catalogue.entries c.args.name.now) c.in-Some-stored.tuples.now.entries c.in-Some-stored.ensures)
    (c.in_err-bounds.ensures.wide (search rules)) (c.in_err-bounds.ensures.orders (search rules))

pub returns-clause-does : goal.returns-clause-does
returns-clause-does c =
    let catalogue = (catalogue_of c.args.catalogue.now) in
    box_shown catalogue c.args.name.now c.in-Some.heading.now c.in_ok-copy.field-0 c.in-Some-stored.tuples.now.entries c.in_ok-bounds.bounds
    (columns_shown (known catalogue c.args.name.now) c.in-Some.heading.now c.in-Some.ensures)
    c.in_ok-copy.ensures
    (tuples_shown (entry_of catalogue.entries c.args.name.now) c.in-Some-stored.tuples.now.entries c.in-Some-stored.ensures)
    c.in_ok-bounds.ensures.is
