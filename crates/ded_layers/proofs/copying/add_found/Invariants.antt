use Rattle.std.proofs.Common.{◌≡◌, ◌++◌, drop}
use Rattle.ded_layers.specs.Layers.{pieces_of}
use Rattle.ded_layers.specs.Indexed.{pieces_at}
use Rattle.ded_layers.proofs.copying.add_found.Given as goal

abbrev pub invariant-loop-place : goal.invariant-loop-place
invariant-loop-place l = l.near.items ++ pieces_at (pieces_of l.parts) (drop l.place-index l.places) ≡ l.fn.near.items ++ pieces_at (pieces_of l.parts) l.places
