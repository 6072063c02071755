-- What is left to put makes the text whole.
use Rattle.std.proofs.Common.{ℕ, List, drop, map}
use Rattle.ded_print.specs.Gathering.{Output, output, Puts}
use Rattle.ded_print.specs.Lines.{lines_text}
use Rattle.ded_print.proofs.script.put_lines.Given as goal

abbrev pub invariant-loop-line : goal.invariant-loop-line
invariant-loop-line g l =
    let same = λ (line : List ℕ). line in
    let contents = g.K.Sink.contents in
    let faults = g.K.Sink.faults in
    (end : Output) → Puts (output (contents l.sink) (faults l.sink) l.gathered) end (lines_text (map same (drop l.line-index l.lines)))
    → Puts (output (contents l.fn.sink) (faults l.fn.sink) l.fn.gathered) end (lines_text (map same l.lines))
