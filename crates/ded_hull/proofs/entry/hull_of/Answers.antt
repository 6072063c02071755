use Rattle.ded_hull.proofs.Halved.{hull_whole}
use Rattle.ded_hull.proofs.entry.hull_of.Goals as goal

pub returns-clause-hull : goal.returns-clause-hull
returns-clause-hull c = hull_whole c.in_ok-hull.hull c.cover.new.hull c.args.entries.now c.in_ok-hull.ensures c.cover.ensures.hull
