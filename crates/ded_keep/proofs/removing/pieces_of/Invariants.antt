use Rattle.std.proofs.Common.{take}
use Rattle.ded_keep.specs.Remaining.{AreOfBoth}
use Rattle.ded_keep.proofs.removing.pieces_of.Given as goal

abbrev pub invariant-loop-other : goal.invariant-loop-other
invariant-loop-other g l = AreOfBoth l.tuple (take l.other-index l.list) l.pieces.items
