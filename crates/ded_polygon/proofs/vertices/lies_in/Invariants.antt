use Rattle.std.proofs.Common.{ℕ, ◌<◌}
use Rattle.std.specs.Prelude.{pos, ◌≤ℤ◌}
use Rattle.ded_polygon.specs.Plane.{level}
use Rattle.ded_polygon.specs.Lists.{side_in}
use Rattle.ded_polygon.proofs.vertices.lies_in.Given as goal

abbrev pub invariant-loop-side : goal.invariant-loop-side
invariant-loop-side l = (k : ℕ) → k < l.side-index → level (side_in l.sides k) l.corner ≤ℤ pos 0
