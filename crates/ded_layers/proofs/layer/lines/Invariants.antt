use Rattle.std.proofs.Common.{take}
use Rattle.ded_layers.specs.Layers.{pieces_of, AreLines}
use Rattle.ded_layers.proofs.layer.lines.Given as goal

abbrev pub invariant-loop-i : goal.invariant-loop-i
invariant-loop-i l = AreLines (pieces_of l.parts) (take l.i l.parts) l.lines.items
