use Rattle.ded_polygon.proofs.Places.{in_read}
use Rattle.ded_strokes.proofs.piece.PlanePiece.new.Goals as goal

pub returns-in_default-clause-wide : goal.returns-in_default-clause-wide
returns-in_default-clause-wide c = λ h range. c.in_default.ensures (range c.row-item.result (in_read c.args.rows.now c.loop-row.row-index _ c.loop-row-test.true c.row-item.is))
