-- One more line was put.
use Rattle.ded_print.specs.Certificates.{entry_line}
use Rattle.ded_print.specs.Gathering.{output}
use Rattle.ded_print.proofs.Answers.{next_line, last_line}
use Rattle.ded_print.proofs.certificate.put_entries.Goals as goal

pub loop-entry-preserved : goal.loop-entry-preserved
loop-entry-preserved g c =
    let start = output (g.K.Sink.contents c.args.sink.now) (g.K.Sink.faults c.args.sink.now) c.args.gathered.now in
    let now = output (g.K.Sink.contents c.loop-entry.sink) (g.K.Sink.faults c.loop-entry.sink) c.loop-entry.gathered in
    let next = output (g.K.Sink.contents c.put_entry.new.sink) (g.K.Sink.faults c.put_entry.new.sink) c.put_entry.new.gathered in
    next_line entry_line start now next c.args.list.now c.args.list.now c.loop-entry.entry-index c.entry-item.result c.loop-entry-test.true c.entry-item.is c.loop-entry.invariant c.put_entry.ensures

pub returns : goal.returns
returns g c =
    let start = output (g.K.Sink.contents c.args.sink.now) (g.K.Sink.faults c.args.sink.now) c.args.gathered.now in
    let now = output (g.K.Sink.contents c.loop-entry.sink) (g.K.Sink.faults c.loop-entry.sink) c.loop-entry.gathered in
    last_line entry_line start now c.args.list.now c.args.list.now c.loop-entry.entry-index c.loop-entry-test.false c.loop-entry.invariant
