use Rattle.std.proofs.Common.{◌≡◌, ◌+◌, ◌≤◌, ◌++◌, length}
use Rattle.ded_relation.specs.Nearby.{numbered}
use Rattle.ded_relation.proofs.finding.listed.Given as goal

abbrev pub invariant-loop-number : goal.invariant-loop-number
invariant-loop-number g l = (numbered l.list.items ++ l.number-iterator ≡ l.tuples.entries) × (l.steps + length l.number-iterator ≤ l.initial.steps + length l.tuples.entries) × (l.initial.steps + length l.list.items ≤ l.steps)
