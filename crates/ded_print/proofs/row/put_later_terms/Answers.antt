-- One more term was put.
use Rattle.std.proofs.Common.{◌∙◌, ap, get_or}
use Rattle.std.specs.Prelude.{ℤ, pos}
use Rattle.std.specs.Int.{w128}
use Rattle.std.proofs.lemmas.Int.{to_z-of_z, fits_signed_from_abs}
use Rattle.ded_model.specs.declared.slot.Slot.{Slot}
use Rattle.ded_model.specs.declared.slot.Sort.TheVariants.{Rat}
use Rattle.ded_print.specs.Tuples.{signed}
use Rattle.ded_print.specs.Gathering.{output}
use Rattle.ded_print.proofs.Terms.{next_term, rest_kept, short_here}
use Rattle.ded_print.proofs.row.put_later_terms.Goals as goal

pub loop-slot-preserved : goal.loop-slot-preserved
loop-slot-preserved g c =
    let coefs = c.args.coefs.now in
    let i = c.loop-slot.slot-index in
    let names = g.N.SlotNames.names c.args.names.now in
    let none : Slot × ℤ = (record { number = 0; sort = Rat }, pos 0) in
    let there = c.loop-slot-test.true in
    let here = get_or coefs i none in
    let start = output (g.K.Sink.contents c.args.sink.now) (g.K.Sink.faults c.args.sink.now) c.args.gathered.now in
    let now = output (g.K.Sink.contents c.loop-slot.sink) (g.K.Sink.faults c.loop-slot.sink) c.loop-slot.gathered in
    let next = output (g.K.Sink.contents c.put_later_term.new.sink) (g.K.Sink.faults c.put_later_term.new.sink) c.put_later_term.new.gathered in
    let back = to_z-of_z w128 c.turned_if.result (fits_signed_from_abs w128 c.turned_if.result c.turned_if.ensures.short) in
    let read = to_z-of_z w128 here.1 (fits_signed_from_abs w128 here.1 (short_here coefs i none there c.loop-slot.invariant.kept)) in
    record {
      goes = next_term names c.args.turned start now next coefs coefs i none _ there c.loop-slot.invariant.goes (back ∙ c.turned_if.ensures.value ∙ ap (signed c.args.turned) read) c.put_later_term.ensures;
      kept = rest_kept coefs i none there c.loop-slot.invariant.kept;
    }
