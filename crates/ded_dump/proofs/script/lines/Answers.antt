-- The lines of one more entry, and of all.
use Rattle.std.proofs.Common.{◌≡◌, map, sym, subst}
use Rattle.ded_model.specs.Catalogue.{entry_name}
use Rattle.ded_catalog.specs.State.{catalogue_of}
use Rattle.ded_dump.specs.Entries.{dump_lines}
use Rattle.ded_dump.proofs.EntryLines.{next_entry, all_entries, name_there}
use Rattle.ded_dump.proofs.script.lines.Goals as goal

pub loop-name-preserved : goal.loop-name-preserved
loop-name-preserved c =
    let k = catalogue_of c.args.catalogue.now in
    let alike = subst (λ l. map (λ n. n.now) l ≡ map entry_name k.entries) (sym c.deref-name-items.ensures.value) c.in_ok-names.ensures in
    next_entry k c.formed.ensures (dump_lines k) c.loop-name.lines.items c.add_entry.new.lines.items c.loop-name.name-index c.name-item.result.now
    (name_there (λ n. n.now) c.deref-name-items.result.now k.entries c.loop-name.name-index c.name-item.result alike c.loop-name-test.true c.name-item.is)
    c.loop-name.invariant c.in_ok-add_entry.ensures

pub returns : goal.returns
returns c =
    let k = catalogue_of c.args.catalogue.now in
    let alike = subst (λ l. map (λ n. n.now) l ≡ map entry_name k.entries) (sym c.deref-name-items.ensures.value) c.in_ok-names.ensures in
    all_entries (λ n. n.now) c.deref-name-items.result.now k (dump_lines k) c.loop-name.lines.items c.loop-name.name-index alike c.loop-name-test.false c.loop-name.invariant
