-- So many layers stand there.
use Rattle.std.proofs.Common.{◌≡◌, []}
use Rattle.std.specs.Prelude.{replicate}
use Rattle.ded_picture.proofs.layers.empty_layers.Given as goal

abbrev pub invariant-loop : goal.invariant-loop
invariant-loop l = l.layers.items ≡ replicate l.counter []
