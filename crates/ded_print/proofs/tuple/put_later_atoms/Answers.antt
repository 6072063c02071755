-- One more atom was put.
use Rattle.ded_print.specs.Gathering.{output}
use Rattle.ded_print.proofs.Gathering.{puts_both}
use Rattle.ded_print.proofs.Terms.{next_atom}
use Rattle.ded_print.proofs.tuple.put_later_atoms.Goals as goal

pub loop-atom-preserved : goal.loop-atom-preserved
loop-atom-preserved g c =
    let names = g.N.SlotNames.names c.args.names.now in
    let start = output (g.K.Sink.contents c.args.sink.now) (g.K.Sink.faults c.args.sink.now) c.args.gathered.now in
    let now = output (g.K.Sink.contents c.loop-atom.sink) (g.K.Sink.faults c.loop-atom.sink) c.loop-atom.gathered in
    let next = output (g.K.Sink.contents c.put_atom.new.sink) (g.K.Sink.faults c.put_atom.new.sink) c.put_atom.new.gathered in
    next_atom names start now next c.args.atoms.now c.args.atoms.now c.loop-atom.atom-index c.atom-item.result c.loop-atom-test.true c.atom-item.is c.loop-atom.invariant
    (puts_both _ _ _ _ _ c.put.ensures c.put_atom.ensures)
