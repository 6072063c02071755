use Rattle.std.proofs.Common.{subst}
use Rattle.std.specs.Prelude.{unsigned_abs}
use Rattle.ded_model.specs.Bound.{Fraction}
use Rattle.ded_ranges.specs.Reaches.{IsIn}
use Rattle.ded_layers.proofs.Convex.{two_pushed}
use Rattle.ded_layers.proofs.query.spot_reach.Goals as goal

pub returns-clause-lies : goal.returns-clause-lies
returns-clause-lies c =
    two_pushed c.range_around.result c.range_around-2.result c.args.corner (unsigned_abs c.args.corner.den) c.new-reach.result c.push.new.self c.push-2.new.self c.new-reach.ensures c.in_ok-push.ensures.added c.in_ok-push-2.ensures.added
    (subst (λ (f : Fraction). IsIn c.range_around.result f.num (unsigned_abs f.den)) c.x_of.ensures c.range_around.ensures)
    (subst (λ (f : Fraction). IsIn c.range_around-2.result f.num (unsigned_abs f.den)) c.y_of.ensures c.range_around-2.ensures)
