use Rattle.std.proofs.Common.{◌≡◌, ℕ, ◌<◌}
use Rattle.std.specs.Prelude.{pos, ◌<ℤ◌}
use Rattle.ded_polygon.specs.Plane.{level, bend}
use Rattle.ded_polygon.specs.Lists.{side_in}
use Rattle.ded_polygon.proofs.arranging.stops.Given as goal

abbrev pub invariant-loop-stop : goal.invariant-loop-stop
invariant-loop-stop l =
    (k : ℕ) → k < l.stop-index → level (side_in l.sides k) l.from <ℤ pos 0 → level (side_in l.sides k) l.to ≡ pos 0 → pos 0 <ℤ bend l.side (side_in l.sides k) → ⊥
