-- What has both in it is a span.
use Rattle.ded_axes.proofs.Floors.{joined_read}
use Rattle.ded_axes.proofs.span.NumberSpan.joined.Goals as goal

pub invariant_of-result : goal.invariant_of-result
invariant_of-result c =
    joined_read c.self.inside.low c.self.inside.high c.other.inside.low c.other.inside.high c.least.result c.greatest.result c.self.invariant c.other.invariant c.least.ensures c.greatest.ensures
