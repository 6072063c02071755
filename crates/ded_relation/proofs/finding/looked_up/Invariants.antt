use Rattle.std.proofs.Common.{◌+◌, ◌≤◌, length, take}
use Rattle.ded_relation.specs.Nearby.{numbered, AreNear, picked}
use Rattle.ded_relation.proofs.finding.looked_up.Given as goal

abbrev pub invariant-loop-number : goal.invariant-loop-number
invariant-loop-number g l = AreNear l.sieve (numbered l.found.items) (picked (take l.number-index l.numbers) l.tuples.entries) × (l.steps ≤ l.initial.steps + l.number-index) × (l.initial.steps + length l.found.items ≤ l.steps)
