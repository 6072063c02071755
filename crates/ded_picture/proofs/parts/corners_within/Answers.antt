use Rattle.std.proofs.Common.{rules}
use Rattle.std.proofs.lemmas.Result.{IfOk-weaker}
use Rattle.ded_picture.proofs.Showing.{too_long}
use Rattle.ded_picture.proofs.parts.corners_within.Goals as goal

pub returns-clause-wide : goal.returns-clause-wide
returns-clause-wide c = λ is. too_long c.args.figure.now _ _ _ (search rules) (search rules) (search rules) (c.cut.ensures.wide is)

pub returns-clause-within : goal.returns-clause-within
returns-clause-within c = IfOk-weaker c.cut.result _ _ (λ cs a. c.shapes.ensures.corners _ _ (search rules) _ _ _ a) c.cut.ensures.corners
