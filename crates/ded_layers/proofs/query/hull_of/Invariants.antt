use Rattle.std.proofs.Common.{take}
use Rattle.ded_layers.specs.Indexed.{LieIn}
use Rattle.ded_layers.proofs.query.hull_of.Given as goal

abbrev pub invariant-loop-i : goal.invariant-loop-i
invariant-loop-i l = LieIn l.hull (take l.i l.corners)
