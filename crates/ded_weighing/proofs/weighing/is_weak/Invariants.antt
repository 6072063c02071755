use Rattle.std.proofs.Common.{◌≡◌, drop}
use Rattle.ded_weighing.specs.Weighing.{is_weak}
use Rattle.ded_weighing.specs.Columns.{lent}
use Rattle.ded_weighing.proofs.weighing.is_weak.Given as goal

abbrev pub invariant-loop-i : goal.invariant-loop-i
invariant-loop-i l = is_weak (drop l.i l.multipliers) (lent (drop l.i l.rows)) ≡ is_weak l.multipliers (lent l.rows)
