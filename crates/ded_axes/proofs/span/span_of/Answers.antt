-- The whole units around a number that is near.
use Rattle.std.proofs.Common.{to_z, of_z}
use Rattle.std.specs.Int.{w128}
use Rattle.ded_axes.specs.Spans.{IsSpan}
use Rattle.ded_axes.proofs.Floors.{found_span}
use Rattle.ded_axes.proofs.span.span_of.Goals as goal

is_span : (c : goal.After-ceiling) → IsSpan (record { low = to_z w128 (of_z w128 c.floor.result); high = to_z w128 (of_z w128 c.ceiling.result) })
is_span c =
    found_span c.args.den c.args.z c.args.d c.product-scaled.result c.floor.result c.ceiling.result c.requires.den c.requires.z c.requires.d c.requires.positive c.requires.near
    c.product-scaled.ensures c.floor.ensures c.ceiling.ensures

pub around-requires-clause-low : goal.around-requires-clause-low
around-requires-clause-low c = (is_span c).low

pub around-requires-clause-high : goal.around-requires-clause-high
around-requires-clause-high c = (is_span c).high

pub around-requires-clause-order : goal.around-requires-clause-order
around-requires-clause-order c = (is_span c).order
