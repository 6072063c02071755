use Rattle.std.proofs.Common.{◌≡◌, drop}
use Rattle.ded_model.specs.Known.{has_twice}
use Rattle.ded_sorts.proofs.shape.has_twice.Given as goal

abbrev pub invariant-loop-i : goal.invariant-loop-i
invariant-loop-i l = has_twice l.columns ≡ has_twice (drop l.i l.columns)
