-- The entry of the name is a relation, a view, or none.
use Rattle.ded_catalog.specs.State.{catalogue_of}
use Rattle.ded_model.specs.Entries.{entry_of}
use Rattle.ded_dump.proofs.EntryLines.{no_lines, relation_lines, relation_put, nothing_put, view_there}
use Rattle.ded_dump.proofs.script.add_entry.Goals as goal

pub returns-in_default : goal.returns-in_default
returns-in_default c = nothing_put c.args.lines.now.items _ (no_lines (catalogue_of c.args.catalogue.now) c.args.name.now c.formed.ensures c.in_default.ensures)

pub add_view-requires : goal.add_view-requires
add_view-requires c = view_there (catalogue_of c.args.catalogue.now) c.args.name.now c.in-Some.heading.now c.formed.ensures c.in-Some.ensures c.in-None.ensures

pub returns-in_ok-push-in-Some-stored : goal.returns-in_ok-push-in-Some-stored
returns-in_ok-push-in-Some-stored c =
    let k = catalogue_of c.args.catalogue.now in
    relation_put c.add_inserts.result c.args.lines.now.items c.push.new.self.items c.add_inserts.new.lines.items (entry_of k.entries c.args.name.now) c.args.name.now c.in_ok-relation_line-in-Some-stored.field-0 c.in-Some.heading.now c.in-Some-stored.tuples.now.entries
    (relation_lines k c.args.name.now c.in-Some.heading.now c.in-Some-stored.tuples.now.entries c.formed.ensures c.in-Some.ensures c.in-Some-stored.ensures)
    c.in_ok-relation_line-in-Some-stored.ensures c.in_ok-push-in-Some-stored.ensures.items c.add_inserts.ensures
