-- What is found so far, with the corners that are left.
use Rattle.std.proofs.Common.{◌≡◌, drop, None}
use Rattle.ded_axes.specs.Around.{spans_from}
use Rattle.ded_axes.proofs.span.spans.Given as goal

abbrev pub invariant-loop-corner : goal.invariant-loop-corner
invariant-loop-corner l = spans_from l.den l.found (drop l.corner-index l.corners) ≡ spans_from l.den None l.corners
