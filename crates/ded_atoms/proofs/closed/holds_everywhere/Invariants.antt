use Rattle.std.proofs.Common.{◌≡◌, false, take}
use Rattle.ded_model.specs.Point.{Point}
use Rattle.ded_model.specs.Row.{tuples_hold}
use Rattle.ded_atoms.proofs.closed.holds_everywhere.Given as goal

abbrev pub invariant-loop-tuple : goal.invariant-loop-tuple
invariant-loop-tuple l = (p : Point) → tuples_hold (take l.tuple-index l.tuples) p ≡ false
