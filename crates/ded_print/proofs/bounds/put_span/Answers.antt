-- The name, the bounds and a line feed.
use Rattle.ded_print.proofs.Gathering.{puts_both, puts_as}
use Rattle.ded_print.proofs.SpanLines.{span_parts}
use Rattle.ded_print.proofs.bounds.put_span.Goals as goal

pub returns : goal.returns
returns g c =
    let name = puts_as _ _ _ _ c.name_bytes.ensures c.put.ensures in
    span_parts _ _ c.args.name.now c.args.span (puts_both _ _ _ _ _ name (puts_both _ _ _ _ _ c.put-2.ensures (puts_both _ _ _ _ _ c.put_lower.ensures (puts_both _ _ _ _ _ c.put-3.ensures (puts_both _ _ _ _ _ c.put_upper.ensures c.put-4.ensures)))))
