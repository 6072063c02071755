use Rattle.std.proofs.Common.{length}
use Rattle.std.specs.List.{refill}
use Rattle.ded_ranges.proofs.Terms.{lies_as, narrowed_held}
use Rattle.ded_ranges.proofs.reach.Reach.narrow.Goals as goal

pub returns-clause-value : goal.returns-clause-value
returns-clause-value c =
    narrowed_held c.args.self.now c.self.inside.ranges.items c.as_mut_slice.result.now c.narrow.new.ranges c.args.place c.args.range c.self.view_is c.as_mut_slice.ensures.value c.narrow.ensures

pub returns-clause-lies : goal.returns-clause-lies
returns-clause-lies c =
    lies_as c.args.self.now (refill (length c.self.inside.ranges.items) c.self.inside.ranges.items c.narrow.new.ranges) c.args.place c.args.range (returns-clause-value c)
