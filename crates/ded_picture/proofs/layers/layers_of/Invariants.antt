-- The parts that were taken stand in their layers.
use Rattle.std.proofs.Common.{◌≡◌, []}
use Rattle.std.specs.Prelude.{replicate}
use Rattle.ded_picture.specs.Layers.{put_all}
use Rattle.ded_picture.proofs.layers.layers_of.Given as goal

abbrev pub invariant-loop-shown : goal.invariant-loop-shown
invariant-loop-shown l = l.layers.items ≡ put_all (replicate l.colours []) l.yielded
