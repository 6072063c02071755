-- The corners that are left complete the list.
use Rattle.std.proofs.Common.{◌≡◌, ◌++◌, drop}
use Rattle.std.specs.Prelude.{map}
use Rattle.ded_picture.specs.Sheets.{point_on}
use Rattle.ded_picture.proofs.marks.points_on.Given as goal

abbrev pub invariant-loop-corner : goal.invariant-loop-corner
invariant-loop-corner l = l.points.items ++ map (point_on l.sheet) (drop l.corner-index l.corners) ≡ map (point_on l.sheet) l.corners
