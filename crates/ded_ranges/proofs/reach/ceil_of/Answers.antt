use Rattle.ded_ranges.proofs.Ends.{ceil_higher}
use Rattle.ded_ranges.proofs.reach.ceil_of.Goals as goal

pub returns : goal.returns
returns c = ceil_higher c.args.bound c.at_least.result c.ceil_units.result c.at_least.ensures c.ceil_units.ensures
