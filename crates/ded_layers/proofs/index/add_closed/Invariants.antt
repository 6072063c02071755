use Rattle.std.proofs.Common.{◌≡◌, ◌++◌, drop}
use Rattle.ded_layers.specs.Indexed.{closed_of}
use Rattle.ded_layers.proofs.index.add_closed.Given as goal

abbrev pub invariant-loop-limit : goal.invariant-loop-limit
invariant-loop-limit l = l.planes.items ++ closed_of (drop l.limit-index l.limits) ≡ l.fn.planes.items ++ closed_of l.limits
