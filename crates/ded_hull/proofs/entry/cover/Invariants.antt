use Rattle.std.proofs.Common.{◌++◌, List, take}
use Rattle.ded_hull.specs.declared.entry.ReachEntry.{ReachEntry}
use Rattle.ded_hull.specs.Entries.{Covers}
use Rattle.ded_hull.specs.Segments.{AreSegments, IsHull}
use Rattle.ded_hull.proofs.entry.cover.Given as goal

abbrev pub invariant-loop-i : goal.invariant-loop-i
invariant-loop-i l =
    Covers l.hull (take l.i l.entries) × ((xs : List ReachEntry) → IsHull l.initial.hull xs → AreSegments (take l.i l.entries) → IsHull l.hull (xs ++ take l.i l.entries))
