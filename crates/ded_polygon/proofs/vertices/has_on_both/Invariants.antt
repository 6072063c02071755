use Rattle.std.proofs.Common.{◌≡◌, ℕ, ◌<◌}
use Rattle.std.specs.Prelude.{pos}
use Rattle.ded_polygon.specs.Plane.{level}
use Rattle.ded_polygon.specs.Lists.{spot_in}
use Rattle.ded_polygon.proofs.vertices.has_on_both.Given as goal

abbrev pub invariant-loop-corner : goal.invariant-loop-corner
invariant-loop-corner l = (k : ℕ) → k < l.corner-index → level l.side (spot_in l.found k) ≡ pos 0 → level l.other (spot_in l.found k) ≡ pos 0 → ⊥
