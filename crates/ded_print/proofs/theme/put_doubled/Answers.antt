-- One more byte was put.
use Rattle.ded_print.specs.Gathering.{output}
use Rattle.ded_print.proofs.Terms.{next_byte}
use Rattle.ded_print.proofs.theme.put_doubled.Goals as goal

pub loop-byte-preserved : goal.loop-byte-preserved
loop-byte-preserved g c =
    let start = output (g.K.Sink.contents c.args.sink.now) (g.K.Sink.faults c.args.sink.now) c.args.gathered.now in
    let now = output (g.K.Sink.contents c.loop-byte.sink) (g.K.Sink.faults c.loop-byte.sink) c.loop-byte.gathered in
    let next = output (g.K.Sink.contents c.put_byte.new.sink) (g.K.Sink.faults c.put_byte.new.sink) c.put_byte.new.gathered in
    next_byte start now next c.args.text.now c.args.text.now c.loop-byte.byte-index 0 c.loop-byte-test.true c.loop-byte.invariant c.put_byte.ensures
