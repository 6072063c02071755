use Rattle.std.proofs.Common.{ℕ, ◌<◌}
use Rattle.ded_polygon.specs.Lists.{side_in, Grows, HasCrossing}
use Rattle.ded_polygon.proofs.vertices.add_on.Given as goal

abbrev pub invariant-loop-other : goal.invariant-loop-other
invariant-loop-other l = record {
  grows : Grows l.sides l.initial.found.items l.found.items;
  has : (k : ℕ) → k < l.other-index → HasCrossing l.sides l.found.items l.side (side_in l.sides k);
}
