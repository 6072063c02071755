use Rattle.std.proofs.Common.{◌≡◌, drop}
use Rattle.ded_model.specs.Known.{scope_of}
use Rattle.ded_model.specs.Point.{name}
use Rattle.ded_model.specs.Slotted.{nearest}
use Rattle.ded_sorts.proofs.scope.sort_among.Given as goal

abbrev pub invariant-loop-column : goal.invariant-loop-column
invariant-loop-column l = nearest (scope_of l.columns) (name l.name) ≡ nearest (scope_of (drop l.column-index l.columns)) (name l.name)
