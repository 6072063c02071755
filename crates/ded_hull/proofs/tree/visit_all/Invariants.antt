use Rattle.std.proofs.Common.{◌≡◌, ◌≤◌, ◌+◌, ◌*◌, ◌++◌, length}
use Rattle.ded_hull.specs.Entries.{ids_in}
use Rattle.ded_hull.specs.Trees.{IsTree, AreNarrow, looked_at}
use Rattle.ded_hull.proofs.tree.visit_all.Given as goal

abbrev pub invariant-loop-node : goal.invariant-loop-node
invariant-loop-node g l =
    IsTree l.next l.rest × (l.found.items ++ ids_in l.probe l.rest ≡ l.initial.found.items ++ ids_in l.probe l.entries)
    × (AreNarrow l.nodes → AreNarrow l.next × (l.steps + 9 * looked_at l.probe 0 l.next ≤ l.initial.steps + 9 * looked_at l.probe 0 l.nodes))
    × (l.initial.steps ≤ l.steps)

abbrev pub decreases-loop-node : goal.decreases-loop-node
decreases-loop-node g l = length l.next
