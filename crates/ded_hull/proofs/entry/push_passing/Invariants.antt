use Rattle.std.proofs.Common.{◌≡◌, ◌≤◌, ◌+◌, ◌++◌, take}
use Rattle.ded_hull.specs.Entries.{ids_in}
use Rattle.ded_hull.proofs.entry.push_passing.Given as goal

abbrev pub invariant-loop-i : goal.invariant-loop-i
invariant-loop-i g l = (l.found.items ≡ l.initial.found.items ++ ids_in l.probe (take l.i l.entries)) × (l.steps ≤ l.initial.steps + l.i) × (l.initial.steps ≤ l.steps)
