use Rattle.std.proofs.Common.{◌≡◌, ℕ, ◌+◌, ◌*◌, ◌^◌, ◌<◌, ◌≤◌, ◌++◌, length, take}
use Rattle.ded_model.proofs.Lists.{Every}
use Rattle.ded_hull.specs.Entries.{ids_in}
use Rattle.ded_hull.specs.Segments.{AreSegments}
use Rattle.ded_hull.specs.Trees.{all_of, AreAlong}
use Rattle.ded_hull.proofs.hulls.find_in.Given as goal

abbrev pub invariant-loop-i : goal.invariant-loop-i
invariant-loop-i g l =
    (l.found.items ≡ l.initial.found.items ++ ids_in l.probe (all_of (take l.i l.trees)))
    × (AreAlong l.probe → AreSegments (all_of l.trees) → Every (λ t. 0 < length t) l.trees → (h : ℕ) → length (all_of l.trees) ≤ 2 ^ h → l.steps ≤ l.initial.steps + 9 * (2 * ((length (ids_in l.probe (all_of (take l.i l.trees))) + l.i) * h) + l.i))
    × (l.initial.steps ≤ l.steps)
