use Rattle.ded_strokes.proofs.RowLimits.{rows_are}
use Rattle.ded_strokes.proofs.piece.rows_are_limits.Goals as goal

pub returns : goal.returns
returns c = λ rows only p. rows_are c.args.x c.args.y c.requires p rows only
