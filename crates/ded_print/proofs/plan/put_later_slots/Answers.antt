-- One more slot was put.
use Rattle.ded_print.specs.Gathering.{output}
use Rattle.ded_print.proofs.Gathering.{puts_both}
use Rattle.ded_print.proofs.Plans.{next_slot}
use Rattle.ded_print.proofs.plan.put_later_slots.Goals as goal

pub loop-slot-preserved : goal.loop-slot-preserved
loop-slot-preserved g c =
    let slots = c.args.slots.now in
    let start = output (g.K.Sink.contents c.args.sink.now) (g.K.Sink.faults c.args.sink.now) c.args.gathered.now in
    let now = output (g.K.Sink.contents c.loop-slot.sink) (g.K.Sink.faults c.loop-slot.sink) c.loop-slot.gathered in
    let next = output (g.K.Sink.contents c.put_name.new.sink) (g.K.Sink.faults c.put_name.new.sink) c.put_name.new.gathered in
    next_slot start now next slots c.loop-slot.slot-index _ c.loop-slot-test.true c.loop-slot.invariant
    (puts_both _ _ _ _ _ c.put.ensures c.put_name.ensures)
