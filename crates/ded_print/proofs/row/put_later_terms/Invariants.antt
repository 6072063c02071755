-- What is left to put makes the text whole.
use Rattle.std.proofs.Common.{drop}
use Rattle.ded_model.specs.Coefs.{AreCoefs}
use Rattle.ded_print.specs.Gathering.{Output, output, Puts}
use Rattle.ded_print.specs.Tuples.{later_terms_text}
use Rattle.ded_print.proofs.row.put_later_terms.Given as goal

abbrev pub invariant-loop-slot : goal.invariant-loop-slot
invariant-loop-slot g l =
    let names = g.N.SlotNames.names l.names in
    let contents = g.K.Sink.contents in
    let faults = g.K.Sink.faults in
    record {
      goes : (end : Output) → Puts (output (contents l.sink) (faults l.sink) l.gathered) end (later_terms_text names l.turned (drop l.slot-index l.coefs))
          → Puts (output (contents l.fn.sink) (faults l.fn.sink) l.fn.gathered) end (later_terms_text names l.turned l.coefs);
      kept : AreCoefs (drop l.slot-index l.coefs);
    }
