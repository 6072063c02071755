-- One more line was put.
use Rattle.ded_print.specs.Gathering.{output}
use Rattle.ded_print.specs.Tuples.{stored_line}
use Rattle.ded_print.proofs.Answers.{next_line, last_line}
use Rattle.ded_print.proofs.stored.put_stored_lines.Goals as goal

pub loop-tuple-preserved : goal.loop-tuple-preserved
loop-tuple-preserved g c =
    let names = g.N.SlotNames.names c.args.names.now in
    let start = output (g.K.Sink.contents c.args.sink.now) (g.K.Sink.faults c.args.sink.now) c.args.gathered.now in
    let now = output (g.K.Sink.contents c.loop-tuple.sink) (g.K.Sink.faults c.loop-tuple.sink) c.loop-tuple.gathered in
    let next = output (g.K.Sink.contents c.put_stored_line.new.sink) (g.K.Sink.faults c.put_stored_line.new.sink) c.put_stored_line.new.gathered in
    next_line (stored_line names) start now next c.args.stored.now c.args.stored.now c.loop-tuple.tuple-index c.tuple-item.result c.loop-tuple-test.true c.tuple-item.is c.loop-tuple.invariant c.put_stored_line.ensures

pub returns : goal.returns
returns g c =
    let start = output (g.K.Sink.contents c.args.sink.now) (g.K.Sink.faults c.args.sink.now) c.args.gathered.now in
    let now = output (g.K.Sink.contents c.loop-tuple.sink) (g.K.Sink.faults c.loop-tuple.sink) c.loop-tuple.gathered in
    last_line (stored_line (g.N.SlotNames.names c.args.names.now)) start now c.args.stored.now c.args.stored.now c.loop-tuple.tuple-index c.loop-tuple-test.false c.loop-tuple.invariant
