use Rattle.std.proofs.Common.{◌++◌, sym, ap, ◌∙◌, subst}
use Rattle.ded_model.specs.Lines.{atoms_lines}
use Rattle.ded_model.specs.Renaming.{IsOneToOne, KeepsSorts, mapped_lines}
use Rattle.ded_model.specs.Row.{tuple_mentions}
use Rattle.ded_algebra.specs.Columns.{column_pairs}
use Rattle.ded_database.proofs.LostReading.{own_read, columns_apart, columns_sorted, adds_read}
use Rattle.ded_database.proofs.lost.add_read.Goals as goal

pub add_lines-requires-clause-one : goal.add_lines-requires-clause-one
add_lines-requires-clause-one c =
    let k = own_read c.deref-2.result.now c.args.heading.now c.deref.result.now c.args.places.now c.in_ok-slots.field-0 c.in-Some.slots c.in-Some.is (c.deref-2.ensures.value ∙ c.heading.view_is) (c.deref.ensures.value ∙ c.places.view_is) c.in_ok-slots.ensures in
    subst (λ map. IsOneToOne map (tuple_mentions c.args.atoms.now)) (sym (c.deref-4.ensures.value ∙ c.in_ok-pairs.ensures ∙ ap (column_pairs 0) c.deref-3.ensures.value))
    (columns_apart c.args.heading.now c.in-Some.slots.items k.sorts c.args.atoms.now c.requires k.distinct)

pub add_lines-requires-clause-sorts : goal.add_lines-requires-clause-sorts
add_lines-requires-clause-sorts c =
    let k = own_read c.deref-2.result.now c.args.heading.now c.deref.result.now c.args.places.now c.in_ok-slots.field-0 c.in-Some.slots c.in-Some.is (c.deref-2.ensures.value ∙ c.heading.view_is) (c.deref.ensures.value ∙ c.places.view_is) c.in_ok-slots.ensures in
    subst (λ map. KeepsSorts map (tuple_mentions c.args.atoms.now)) (sym (c.deref-4.ensures.value ∙ c.in_ok-pairs.ensures ∙ ap (column_pairs 0) c.deref-3.ensures.value))
    (columns_sorted c.args.heading.now c.in-Some.slots.items k.sorts c.args.atoms.now c.requires)

pub returns : goal.returns
returns c = λ e.
    adds_read c.args.heading.now c.in-Some.slots.items c.args.places.now c.args.atoms.now c.args.lines.now.items c.add_lines.new.lines.items (own_read c.deref-2.result.now c.args.heading.now c.deref.result.now c.args.places.now c.in_ok-slots.field-0 c.in-Some.slots c.in-Some.is (c.deref-2.ensures.value ∙ c.heading.view_is) (c.deref.ensures.value ∙ c.places.view_is) c.in_ok-slots.ensures) c.requires
    (c.in_ok-add_lines.ensures ∙ ap (λ map. c.args.lines.now.items ++ mapped_lines map (atoms_lines c.args.atoms.now)) (c.deref-4.ensures.value ∙ c.in_ok-pairs.ensures ∙ ap (column_pairs 0) c.deref-3.ensures.value))
