use Rattle.std.proofs.Common.{◌≡◌, ◌+◌}
use Rattle.ded_algebra.proofs.lending.count_all.Given as goal

abbrev pub invariant-loop : goal.invariant-loop
invariant-loop g l = l.steps ≡ l.initial.steps + l.counter
