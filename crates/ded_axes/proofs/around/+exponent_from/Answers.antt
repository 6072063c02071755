-- Each step of the search for an exponent.
use Rattle.ded_axes.proofs.Exponents.{last_long, last_short, found_here, found_behind}
use Rattle.ded_axes.proofs.around.+exponent_from.Goals as goal

pub returns-then-extent_at-ge2-clause-value : goal.returns-then-extent_at-ge2-clause-value
returns-then-extent_at-ge2-clause-value t c = last_long c.args.left c.extent_at.result c.args.corners.now c.if-left-eq0.true c.extent_at.ensures c.if-extent_at-ge2.true

pub returns-else-extent_at-ge2-clause-value : goal.returns-else-extent_at-ge2-clause-value
returns-else-extent_at-ge2-clause-value t c = last_short c.args.left c.extent_at.result c.args.corners.now c.if-left-eq0.true c.extent_at.ensures c.if-extent_at-ge2.false

pub returns-then-extent_at-ge1000-clause-value : goal.returns-then-extent_at-ge1000-clause-value
returns-then-extent_at-ge1000-clause-value t c = found_here c.args.left c.extent_at-2.result c.args.corners.now c.if-left-eq0.false c.extent_at-2.ensures c.if-extent_at-ge1000.true

pub returns-clause-value : goal.returns-clause-value
returns-clause-value t c =
    found_behind c.args.left c.extent_at-2.result c.args.corners.now c.exponent_from.result c.if-left-eq0.false c.extent_at-2.ensures c.if-extent_at-ge1000.false c.exponent_from.ensures.value
