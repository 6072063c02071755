use Rattle.std.proofs.Common.{◌≡◌}
use Rattle.std.proofs.lemmas.List.{get_or_default}
use Rattle.ded_model.specs.declared.slot.Slot.{Slot}
use Rattle.ded_model.specs.Renaming.{renamed}
use Rattle.ded_algebra.specs.Columns.{column_pairs}
use Rattle.ded_eval.proofs.Staying.{columns_more, columns_done}
use Rattle.ded_eval.proofs.scanning.are_columns.Goals as goal

pub loop-slot-preserved : goal.loop-slot-preserved
loop-slot-preserved c =
    columns_more c.args.slots.now c.loop-slot.slot-index c.loop-slot.number c.in-Some.next _ ((t : Slot) → renamed (column_pairs 0 c.args.slots.now) t ≡ t) c.loop-slot-test.true (get_or_default c.args.slots.now c.loop-slot.slot-index _ _ c.loop-slot-test.true)
    c.if-slot-number.false c.in-Some.ensures.1 c.loop-slot.invariant

pub returns : goal.returns
returns c = λ e. columns_done c.args.slots.now c.loop-slot.slot-index c.loop-slot.number ((t : Slot) → renamed (column_pairs 0 c.args.slots.now) t ≡ t) c.loop-slot-test.false c.loop-slot.invariant
