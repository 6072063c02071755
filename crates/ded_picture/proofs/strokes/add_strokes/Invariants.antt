-- The lines that are left complete the list.
use Rattle.std.proofs.Common.{◌≡◌, ◌++◌, drop}
use Rattle.ded_picture.specs.Sheets.{strokes_of}
use Rattle.ded_picture.proofs.strokes.add_strokes.Given as goal

abbrev pub invariant-loop-stretch : goal.invariant-loop-stretch
invariant-loop-stretch l = l.strokes.items ++ strokes_of l.sheet l.colour (drop l.stretch-index l.stretches) ≡ l.fn.strokes.items ++ strokes_of l.sheet l.colour l.stretches
