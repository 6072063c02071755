-- The tuples are those that the catalogue has under the name.
use Rattle.std.proofs.Common.{sym}
use Rattle.ded_catalog.specs.State.{catalogue_of}
use Rattle.ded_model.specs.Entries.{entry_of}
use Rattle.ded_sorts.proofs.KnownEntries.{relation_there}
use Rattle.ded_session.proofs.Calls.{tuples_shown, list_there}
use Rattle.ded_session.proofs.certificates.tuples.Goals as goal

pub unreachable-requires : goal.unreachable-requires
unreachable-requires c =
    let catalogue = (catalogue_of c.args.catalogue.now) in
    list_there (entry_of catalogue.entries c.args.name.now) (relation_there catalogue c.args.name.now c.formed.ensures c.requires) (sym c.in_default.ensures)

pub returns : goal.returns
returns c =
    let catalogue = (catalogue_of c.args.catalogue.now) in
    tuples_shown (entry_of catalogue.entries c.args.name.now) c.in-Some.tuples.now.entries c.in-Some.ensures
