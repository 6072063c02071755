use Rattle.std.proofs.Common.{◌≡◌, ℕ, ◌<◌}
use Rattle.std.specs.Prelude.{pos}
use Rattle.ded_polygon.specs.Plane.{level}
use Rattle.ded_polygon.specs.Vertices.{IsStop}
use Rattle.ded_polygon.specs.Lists.{side_in}
use Rattle.ded_polygon.proofs.arranging.is_edge.Given as goal

abbrev pub invariant-loop-side : goal.invariant-loop-side
invariant-loop-side l =
    (k : ℕ) → k < l.side-index → level (side_in l.sides k) l.from ≡ pos 0 → level (side_in l.sides k) l.to ≡ pos 0 → IsStop l.sides (side_in l.sides k) l.from l.to → ⊥
