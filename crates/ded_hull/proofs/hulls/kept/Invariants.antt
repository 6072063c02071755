use Rattle.std.proofs.Common.{◌≡◌, ◌+◌, ◌-◌, ◌^◌, ◌≤◌, min, length, drop}
use Rattle.ded_hull.specs.Trees.{all_of}
use Rattle.ded_hull.proofs.hulls.kept.Given as goal

abbrev pub invariant-loop-keep : goal.invariant-loop-keep
invariant-loop-keep l = l.keep ≤ length l.trees × (l.behind ≡ min (length (all_of (drop l.keep l.trees)) + l.initial.behind) (2 ^ 64 - 1))

abbrev pub decreases-loop-keep : goal.decreases-loop-keep
decreases-loop-keep l = l.keep
