use Rattle.std.proofs.Common.{◌≡◌, drop}
use Rattle.ded_ranges.specs.Boxes.{overlaps}
use Rattle.ded_ranges.proofs.probe.overlaps.Given as goal

abbrev pub invariant-loop-i : goal.invariant-loop-i
invariant-loop-i l = overlaps (drop l.i l.ranges) (drop l.i l.others) ≡ overlaps l.ranges l.others
