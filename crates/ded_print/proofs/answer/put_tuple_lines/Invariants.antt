-- What is left to put makes the text whole.
use Rattle.std.proofs.Common.{drop, map}
use Rattle.ded_print.specs.Gathering.{Output, output, Puts}
use Rattle.ded_print.specs.Lines.{lines_text}
use Rattle.ded_print.specs.Tuples.{tuple_text}
use Rattle.ded_print.proofs.answer.put_tuple_lines.Given as goal

abbrev pub invariant-loop-tuple : goal.invariant-loop-tuple
invariant-loop-tuple g l =
    let names = g.N.SlotNames.names l.names in
    let contents = g.K.Sink.contents in
    let faults = g.K.Sink.faults in
    (end : Output) → Puts (output (contents l.sink) (faults l.sink) l.gathered) end (lines_text (map (tuple_text names) (drop l.tuple-index l.tuples)))
    → Puts (output (contents l.fn.sink) (faults l.fn.sink) l.fn.gathered) end (lines_text (map (tuple_text names) l.tuples))
