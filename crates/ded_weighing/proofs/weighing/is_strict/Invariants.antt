use Rattle.std.proofs.Common.{◌≡◌, drop}
use Rattle.ded_weighing.specs.Weighing.{is_strict}
use Rattle.ded_weighing.specs.Columns.{lent}
use Rattle.ded_weighing.proofs.weighing.is_strict.Given as goal

abbrev pub invariant-loop-i : goal.invariant-loop-i
invariant-loop-i l = is_strict (drop l.i l.multipliers) (lent (drop l.i l.rows)) ≡ is_strict l.multipliers (lent l.rows)
