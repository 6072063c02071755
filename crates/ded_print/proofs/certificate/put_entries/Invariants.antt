-- What is left to put makes the text whole.
use Rattle.std.proofs.Common.{drop, map}
use Rattle.ded_print.specs.Certificates.{entry_line}
use Rattle.ded_print.specs.Gathering.{Output, output, Puts}
use Rattle.ded_print.specs.Lines.{lines_text}
use Rattle.ded_print.proofs.certificate.put_entries.Given as goal

abbrev pub invariant-loop-entry : goal.invariant-loop-entry
invariant-loop-entry g l =
    let contents = g.K.Sink.contents in
    let faults = g.K.Sink.faults in
    (end : Output) → Puts (output (contents l.sink) (faults l.sink) l.gathered) end (lines_text (map entry_line (drop l.entry-index l.list)))
    → Puts (output (contents l.fn.sink) (faults l.fn.sink) l.fn.gathered) end (lines_text (map entry_line l.list))
