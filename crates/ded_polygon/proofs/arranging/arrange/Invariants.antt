use Rattle.std.proofs.Common.{◌≡◌, length}
use Rattle.ded_polygon.specs.Lists.{AreAllVertices}
use Rattle.ded_polygon.proofs.Ordered.{LeadTo}
use Rattle.ded_polygon.proofs.arranging.arrange.Given as goal

abbrev pub invariant-loop-place : goal.invariant-loop-place
invariant-loop-place l = record {
  all : AreAllVertices l.sides l.corners.items;
  lead : LeadTo l.sides l.corners.items l.place;
  length_is : length l.corners.items ≡ l.place-end;
}
