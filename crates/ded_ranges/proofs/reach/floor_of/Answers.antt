use Rattle.ded_ranges.proofs.Ends.{floor_lower}
use Rattle.ded_ranges.proofs.reach.floor_of.Goals as goal

pub returns : goal.returns
returns c = floor_lower c.args.bound c.at_most.result c.floor_units.result c.at_most.ensures c.floor_units.ensures
