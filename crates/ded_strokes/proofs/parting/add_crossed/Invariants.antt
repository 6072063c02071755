use Rattle.std.proofs.Common.{◌≡◌, ◌++◌, drop}
use Rattle.ded_strokes.specs.Stretches.{crossed}
use Rattle.ded_strokes.proofs.parting.add_crossed.Given as goal

abbrev pub invariant-loop-limit : goal.invariant-loop-limit
invariant-loop-limit l = l.borders.items ++ crossed l.from l.to (drop l.limit-index l.limits) ≡ l.fn.borders.items ++ crossed l.from l.to l.limits
