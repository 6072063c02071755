use Rattle.std.proofs.Common.{◌≡◌, ◌++◌, drop}
use Rattle.ded_strokes.specs.Stretches.{all_crossed}
use Rattle.ded_strokes.proofs.parting.all_crossed.Given as goal

abbrev pub invariant-loop-i : goal.invariant-loop-i
invariant-loop-i l = l.borders.items ++ all_crossed l.from l.to (drop l.i l.pieces) ≡ all_crossed l.from l.to l.pieces
