use Rattle.std.proofs.Common.{◌≡◌, ◌++◌, drop}
use Rattle.ded_layers.specs.Layers.{pieces_of}
use Rattle.ded_layers.proofs.copying.add_from.Given as goal

abbrev pub invariant-loop-place : goal.invariant-loop-place
invariant-loop-place l = l.near.items ++ drop l.place (pieces_of l.parts) ≡ l.fn.near.items ++ drop l.first (pieces_of l.parts)
