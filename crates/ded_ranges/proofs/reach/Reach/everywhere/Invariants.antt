use Rattle.std.proofs.Common.{◌≡◌}
use Rattle.ded_ranges.specs.Reaches.{all_values}
use Rattle.ded_ranges.proofs.reach.Reach.everywhere.Given as goal

abbrev pub invariant-loop : goal.invariant-loop
invariant-loop l = l.ranges.items ≡ all_values l.counter
