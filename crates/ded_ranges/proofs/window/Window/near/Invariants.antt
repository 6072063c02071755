use Rattle.std.proofs.Common.{take}
use Rattle.ded_ranges.specs.Windows.{IsNear}
use Rattle.ded_packed.specs.Lent.{lent}
use Rattle.ded_ranges.proofs.window.Window.near.Given as goal

abbrev pub invariant-loop-tuple : goal.invariant-loop-tuple
invariant-loop-tuple l = IsNear l.self (lent l.found.items) (take l.tuple-index l.tuples)
