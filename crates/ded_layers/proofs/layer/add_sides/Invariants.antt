use Rattle.std.proofs.Common.{List}
use Rattle.ded_strokes.specs.Bounds.{PlaneLimit}
use Rattle.ded_layers.specs.Layers.{AreAllEnough, AreFirstLines, Adds}
use Rattle.ded_layers.proofs.layer.add_sides.Given as goal

abbrev pub invariant-loop-k : goal.invariant-loop-k
invariant-loop-k l = (pieces : List (List PlaneLimit)) → AreAllEnough l.corners l.near pieces → Adds (AreFirstLines pieces l.own l.corners l.k) l.initial.lines.items l.lines.items
