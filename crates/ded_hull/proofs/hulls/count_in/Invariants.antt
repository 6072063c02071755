use Rattle.std.proofs.Common.{◌≡◌, ◌-◌, ◌^◌, min, length, take}
use Rattle.ded_hull.specs.Trees.{all_of}
use Rattle.ded_hull.proofs.hulls.count_in.Given as goal

abbrev pub invariant-loop-i : goal.invariant-loop-i
invariant-loop-i l = l.count ≡ min (length (all_of (take l.i l.trees))) (2 ^ 64 - 1)
