-- The lines of the first layers stand there.
use Rattle.std.proofs.Common.{drop}
use Rattle.ded_picture.proofs.Stroked.{Goes}
use Rattle.ded_picture.proofs.strokes.add_layers.Given as goal

abbrev pub invariant-loop-layer : goal.invariant-loop-layer
invariant-loop-layer l = Goes l.sheet l.fn.colour l.layers l.fn.strokes.items l.colour (drop l.layer-index l.layers) l.strokes.items
