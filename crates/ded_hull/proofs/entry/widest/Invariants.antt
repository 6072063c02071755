use Rattle.std.proofs.Common.{◌-◌, ◌≤◌}
use Rattle.ded_hull.proofs.entry.widest.Given as goal

abbrev pub invariant-loop-place : goal.invariant-loop-place
invariant-loop-place l = l.best ≤ l.place - 1
