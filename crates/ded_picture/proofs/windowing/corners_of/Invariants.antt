-- The corners of those that are left complete the list.
use Rattle.std.proofs.Common.{drop}
use Rattle.ded_picture.proofs.Cornering.{Goes}
use Rattle.ded_picture.proofs.windowing.corners_of.Given as goal

abbrev pub invariant-loop-sight : goal.invariant-loop-sight
invariant-loop-sight l = Goes l.sights (drop l.sight-index l.sights) l.found.items
