use Rattle.std.proofs.Common.{◌≡◌, take, map}
use Rattle.ded_model.specs.Slotted.{place_of}
use Rattle.ded_resolve.proofs.comparisons.places.Given as goal

abbrev pub invariant-loop-operand : goal.invariant-loop-operand
invariant-loop-operand l = l.list.items ≡ map (place_of l.scope) (take l.operand-index l.operand-items)
