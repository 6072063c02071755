use Rattle.std.proofs.Common.{◌≡◌, drop}
use Rattle.ded_weighing.specs.Weighing.{signs_fit}
use Rattle.ded_weighing.specs.Columns.{lent}
use Rattle.ded_weighing.proofs.weighing.signs_fit.Given as goal

abbrev pub invariant-loop-i : goal.invariant-loop-i
invariant-loop-i l = signs_fit (drop l.i l.multipliers) (lent (drop l.i l.rows)) ≡ signs_fit l.multipliers (lent l.rows)
