use Rattle.std.proofs.Common.{◌++◌, ap, rules}
use Rattle.std.proofs.lemmas.List.{get_or_default}
use Rattle.ded_query.specs.Columns.{slot_columns}
use Rattle.ded_query.proofs.ColumnsRead.{columns_more, columns_done}
use Rattle.ded_query.proofs.columns.slot_columns.Goals as goal

pub loop-slot-init : goal.loop-slot-init
loop-slot-init c = ap (λ xs. xs ++ slot_columns 0 c.args.slots.now) c.in_ok-pairs.ensures.items

pub loop-slot-preserved : goal.loop-slot-preserved
loop-slot-preserved c =
    columns_more c.args.slots.now c.loop-slot.slot-index c.loop-slot.number c.in_ok-number.number c.loop-slot.pairs.items c.push.new.self.items (slot_columns 0 c.args.slots.now) _ c.loop-slot-test.true (get_or_default c.args.slots.now c.loop-slot.slot-index _ _ c.loop-slot-test.true) c.in_ok-push.ensures.items (search rules) c.loop-slot.invariant

pub returns : goal.returns
returns c = columns_done c.args.slots.now c.loop-slot.slot-index c.loop-slot.number c.loop-slot.pairs.items (slot_columns 0 c.args.slots.now) c.loop-slot-test.false c.loop-slot.invariant
