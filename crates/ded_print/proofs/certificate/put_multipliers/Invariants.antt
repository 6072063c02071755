-- What is left to put makes the text whole.
use Rattle.std.proofs.Common.{drop}
use Rattle.ded_print.specs.Certificates.{multipliers_text}
use Rattle.ded_print.specs.Gathering.{Output, output, Puts}
use Rattle.ded_print.proofs.certificate.put_multipliers.Given as goal

abbrev pub invariant-loop-number : goal.invariant-loop-number
invariant-loop-number g l =
    let contents = g.K.Sink.contents in
    let faults = g.K.Sink.faults in
    (end : Output) → Puts (output (contents l.sink) (faults l.sink) l.gathered) end (multipliers_text (drop l.number-index l.list))
    → Puts (output (contents l.fn.sink) (faults l.fn.sink) l.fn.gathered) end (multipliers_text l.list)
