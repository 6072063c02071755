use Rattle.std.proofs.Common.{◌≡◌, take}
use Rattle.ded_polygon.specs.Rows.{half_planes}
use Rattle.ded_polygon.proofs.reading.sides.Given as goal

abbrev pub invariant-loop-row : goal.invariant-loop-row
invariant-loop-row l = l.sides.items ≡ half_planes l.x l.y (take l.row-index l.rows)
