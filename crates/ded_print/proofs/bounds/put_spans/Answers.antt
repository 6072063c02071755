-- One more line was put, or none.
use Rattle.std.proofs.Common.{◌∙◌, sym}
use Rattle.ded_print.specs.Gathering.{output}
use Rattle.ded_print.proofs.SpanLines.{next_span, skip_text, skip_past}
use Rattle.ded_print.proofs.bounds.put_spans.Goals as goal
use Rattle.ded_print.proofs.bounds.put_spans.Goals.{then-is_rational+then-next-spans, else-is_rational, else-is_rational-via-then-is_rational+else-next-spans, else-is_rational-via-else-is_rational}

pub loop-column-preserved : goal.loop-column-preserved
loop-column-preserved g c =
    let start = output (g.K.Sink.contents c.args.sink.now) (g.K.Sink.faults c.args.sink.now) c.args.gathered.now in
    let now = output (g.K.Sink.contents c.loop-column.sink) (g.K.Sink.faults c.loop-column.sink) c.loop-column.gathered in
    let columns = c.args.columns.now in
    let spans = c.args.spans.now in
    elim c.if-is_rational.branch [
      | then-is_rational+then-next-spans w ↦
          let next = output (g.K.Sink.contents w.put_span.new.sink) (g.K.Sink.faults w.put_span.new.sink) w.put_span.new.gathered in
          rw w.gathered-is (rw w.sink-is
          (next_span start now columns columns spans spans c.loop-column.column-index c.loop-column.next c.column-item.result c.loop-column-test.true c.column-item.is c.loop-column.invariant
          next c.if-is_rational.next w.index-spans-next.result w.next-is (sym c.is_rational.ensures ∙ w.if-is_rational.true) w.if-next-spans.true w.index-spans-next.is w.put_span.ensures))
      | else-is_rational w ↦ rw w.gathered-is (rw w.sink-is (rw w.next-is (elim w.else-is_rational.branch [
        | else-is_rational-via-then-is_rational+else-next-spans u ↦
            skip_past start now columns columns spans spans c.loop-column.column-index c.loop-column.next c.column-item.result c.loop-column-test.true c.column-item.is c.loop-column.invariant u.if-next-spans.false
        | else-is_rational-via-else-is_rational u ↦
            skip_text start now columns columns spans spans c.loop-column.column-index c.loop-column.next c.column-item.result c.loop-column-test.true c.column-item.is c.loop-column.invariant (sym c.is_rational.ensures ∙ u.if-is_rational.false)
      ])))
    ]
