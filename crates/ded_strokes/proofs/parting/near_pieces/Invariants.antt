use Rattle.std.proofs.Common.{◌≡◌, ◌++◌, drop}
use Rattle.ded_strokes.specs.Stretches.{near_pieces}
use Rattle.ded_strokes.proofs.parting.near_pieces.Given as goal

abbrev pub invariant-loop-i : goal.invariant-loop-i
invariant-loop-i l = l.near.items ++ near_pieces l.from l.to (drop l.i l.pieces) ≡ near_pieces l.from l.to l.pieces
