use Rattle.std.proofs.Common.{◌≡◌, ◌++◌, take}
use Rattle.ded_hull.specs.Trees.{all_of}
use Rattle.ded_hull.proofs.hulls.copy_trees.Given as goal

abbrev pub invariant-loop-i : goal.invariant-loop-i
invariant-loop-i l = l.to.items ≡ l.initial.to.items ++ all_of (take l.i l.trees)
