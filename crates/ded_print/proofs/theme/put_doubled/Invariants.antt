-- What is left to put makes the text whole.
use Rattle.std.proofs.Common.{drop}
use Rattle.ded_print.specs.Gathering.{Output, output, Puts}
use Rattle.ded_model.specs.Quoting.{doubled}
use Rattle.ded_print.proofs.theme.put_doubled.Given as goal

abbrev pub invariant-loop-byte : goal.invariant-loop-byte
invariant-loop-byte g l =
    let contents = g.K.Sink.contents in
    let faults = g.K.Sink.faults in
    (end : Output) → Puts (output (contents l.sink) (faults l.sink) l.gathered) end (doubled (drop l.byte-index l.text))
    → Puts (output (contents l.fn.sink) (faults l.fn.sink) l.fn.gathered) end (doubled l.text)
