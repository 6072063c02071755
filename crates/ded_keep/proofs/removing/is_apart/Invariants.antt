use Rattle.std.proofs.Common.{take}
use Rattle.ded_keep.specs.Remaining.{IsApart}
use Rattle.ded_keep.proofs.removing.is_apart.Given as goal

abbrev pub invariant-loop-other : goal.invariant-loop-other
invariant-loop-other g l = IsApart l.tuple (take l.other-index l.lost)
