use Rattle.std.proofs.Common.{drop}
use Rattle.ded_weighing.specs.Columns.{lent, number_in}
use Rattle.ded_weighing.proofs.Walking.{IsSummed}
use Rattle.ded_weighing.proofs.weighing.column_sum.Given as goal

abbrev pub invariant-loop-i : goal.invariant-loop-i
invariant-loop-i l = IsSummed (number_in l.fn.column) l.multipliers (lent l.rows) l.sum (drop l.i l.multipliers) (lent (drop l.i l.rows))
