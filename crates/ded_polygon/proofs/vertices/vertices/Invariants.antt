use Rattle.std.proofs.Common.{ℕ, ◌<◌, length}
use Rattle.ded_polygon.specs.Lists.{side_in, AreVertices, HasCrossing}
use Rattle.ded_polygon.proofs.vertices.vertices.Given as goal

abbrev pub invariant-loop-side : goal.invariant-loop-side
invariant-loop-side l = record {
  vertices : AreVertices l.sides l.found.items;
  has : (j k : ℕ) → j < l.side-index → k < length l.sides → HasCrossing l.sides l.found.items (side_in l.sides j) (side_in l.sides k);
}
