-- What is left to put makes the text whole.
use Rattle.std.proofs.Common.{drop}
use Rattle.ded_print.specs.Boxes.{spans_text}
use Rattle.ded_print.specs.Gathering.{Output, output, Puts}
use Rattle.ded_print.proofs.bounds.put_spans.Given as goal

abbrev pub invariant-loop-column : goal.invariant-loop-column
invariant-loop-column g l =
    let contents = g.K.Sink.contents in
    let faults = g.K.Sink.faults in
    (end : Output) → Puts (output (contents l.sink) (faults l.sink) l.gathered) end (spans_text (drop l.column-index l.columns) (drop l.next l.spans))
    → Puts (output (contents l.fn.sink) (faults l.fn.sink) l.fn.gathered) end (spans_text l.columns l.spans)
