use Rattle.std.proofs.Common.{ℕ, ◌<◌, ◌≤◌}
use Rattle.ded_polygon.specs.Vertices.{IsEdge}
use Rattle.ded_polygon.specs.Lists.{spot_in}
use Rattle.ded_polygon.proofs.arranging.next_of.Given as goal

abbrev pub invariant-loop-next : goal.invariant-loop-next
invariant-loop-next l = (k : ℕ) → l.place ≤ k → k < l.next → IsEdge l.sides l.last (spot_in l.corners k) → ⊥
