use Rattle.ded_polygon.proofs.Framing.{cut_bounded}
use Rattle.ded_polygon.proofs.laws.windows.Goals as goal

pub returns : goal.returns
returns c = λ rows. cut_bounded c.args.x c.args.y c.requires rows c.args.window c.sides.ensures.positive
