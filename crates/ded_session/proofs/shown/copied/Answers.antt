-- What is copied is what the catalogue has under the name.
use Rattle.std.proofs.Common.{ap, sym, ◌∙◌, List, ℕ}
use Rattle.ded_model.specs.declared.name.Column.{Column}
use Rattle.ded_model.specs.Row.{Atom}
use Rattle.ded_catalog.specs.State.{catalogue_of}
use Rattle.ded_model.specs.Entries.{entry_of, known, columns_in}
use Rattle.ded_sorts.proofs.KnownEntries.{relation_there}
use Rattle.ded_session.specs.Replies.{stored}
use Rattle.ded_session.proofs.Calls.{columns_shown, tuples_shown, list_there}
use Rattle.ded_session.proofs.shown.copied.Goals as goal

pub unreachable-requires-in_default-stored : goal.unreachable-requires-in_default-stored
unreachable-requires-in_default-stored c =
    let catalogue = (catalogue_of c.args.catalogue.now) in
    list_there (entry_of catalogue.entries c.args.name.now) (relation_there catalogue c.args.name.now c.formed.ensures c.requires) (sym c.in_default-stored.ensures)

pub returns : goal.returns
returns c =
    let catalogue = (catalogue_of c.args.catalogue.now) in
    ap (λ (h : List Column). stored h c.in_ok-copy_of.field-0) (c.in_ok-copy.ensures ∙ columns_shown (known catalogue c.args.name.now) c.in-Some.heading.now c.in-Some.ensures)
    ∙ ap (λ (ts : List (ℕ × List Atom)). stored (columns_in catalogue c.args.name.now) ts) (c.in_ok-copy_of.ensures ∙ tuples_shown (entry_of catalogue.entries c.args.name.now) c.in-Some-stored.tuples.now.entries c.in-Some-stored.ensures)
