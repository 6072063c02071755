-- What is left to put makes the text whole.
use Rattle.std.proofs.Common.{drop}
use Rattle.ded_print.specs.Gathering.{Output, output, Puts}
use Rattle.ded_print.specs.Tuples.{later_atoms_text}
use Rattle.ded_print.proofs.tuple.put_later_atoms.Given as goal

abbrev pub invariant-loop-atom : goal.invariant-loop-atom
invariant-loop-atom g l =
    let names = g.N.SlotNames.names l.names in
    let contents = g.K.Sink.contents in
    let faults = g.K.Sink.faults in
    (end : Output) → Puts (output (contents l.sink) (faults l.sink) l.gathered) end (later_atoms_text names (drop l.atom-index l.atoms))
    → Puts (output (contents l.fn.sink) (faults l.fn.sink) l.fn.gathered) end (later_atoms_text names l.atoms)
