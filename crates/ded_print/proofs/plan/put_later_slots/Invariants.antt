-- What is left to put makes the text whole.
use Rattle.std.proofs.Common.{drop}
use Rattle.ded_print.specs.Gathering.{Output, output, Puts}
use Rattle.ded_print.specs.Plans.{later_slots_text}
use Rattle.ded_print.proofs.plan.put_later_slots.Given as goal

abbrev pub invariant-loop-slot : goal.invariant-loop-slot
invariant-loop-slot g l =
    let contents = g.K.Sink.contents in
    let faults = g.K.Sink.faults in
    (end : Output) → Puts (output (contents l.sink) (faults l.sink) l.gathered) end (later_slots_text (drop l.slot-index l.slots))
    → Puts (output (contents l.fn.sink) (faults l.fn.sink) l.fn.gathered) end (later_slots_text l.slots)
