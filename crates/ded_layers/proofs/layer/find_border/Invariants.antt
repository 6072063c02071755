use Rattle.std.proofs.Common.{take}
use Rattle.ded_polygon.specs.Plane.{In}
use Rattle.ded_strokes.specs.Bounds.{PlaneLimit}
use Rattle.ded_layers.specs.Layers.{RunsThrough}
use Rattle.ded_layers.proofs.layer.find_border.Given as goal

abbrev pub invariant-loop-limit : goal.invariant-loop-limit
invariant-loop-limit l = (b : PlaneLimit) → In b (take l.limit-index l.limits) → RunsThrough l.from l.to b → ⊥
