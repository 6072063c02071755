use Rattle.std.proofs.Common.{◌≡◌, take}
use Rattle.ded_strokes.specs.Bounds.{limits_of}
use Rattle.ded_strokes.proofs.piece.PlanePiece.new.Given as goal

abbrev pub invariant-loop-row : goal.invariant-loop-row
invariant-loop-row l = l.limits.items ≡ limits_of l.x l.y (take l.row-index l.rows)
