use Rattle.std.proofs.Common.{rules}
use Rattle.ded_picture.proofs.Showing.{too_long}
use Rattle.ded_picture.proofs.windowing.corners_in.Goals as goal

pub returns-clause-wide : goal.returns-clause-wide
returns-clause-wide c = λ is. too_long c.args.figure.now _ _ _ (search rules) (search rules) (search rules) (c.corners.ensures.wide is)
