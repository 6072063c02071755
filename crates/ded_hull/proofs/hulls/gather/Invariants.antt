use Rattle.std.proofs.Common.{◌≡◌, ◌≤◌, ◌++◌, min, length, take}
use Rattle.ded_hull.specs.Trees.{all_of}
use Rattle.ded_hull.proofs.hulls.gather.Given as goal

abbrev pub invariant-loop-trees : goal.invariant-loop-trees
invariant-loop-trees l =
    (all_of l.trees.items ++ l.tail.items ≡ all_of l.initial.trees.items ++ l.initial.tail.items)
    × (l.trees.items ≡ take (length l.trees.items) l.initial.trees.items)
    × (min l.keep (length l.initial.trees.items) ≤ length l.trees.items)

abbrev pub decreases-loop-trees : goal.decreases-loop-trees
decreases-loop-trees l = length l.trees.items
