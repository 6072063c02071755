use Rattle.std.proofs.Common.{◌≡◌, ◌++◌, take}
use Rattle.ded_hull.proofs.entry.copy_all.Given as goal

abbrev pub invariant-loop-i : goal.invariant-loop-i
invariant-loop-i l = l.to.items ≡ l.initial.to.items ++ take l.i l.from
