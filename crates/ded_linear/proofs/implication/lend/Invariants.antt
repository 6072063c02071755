use Rattle.std.proofs.Common.{◌≡◌, ◌++◌, take}
use Rattle.ded_weighing.specs.Columns.{lent}
use Rattle.ded_linear.proofs.implication.lend.Given as goal

abbrev pub invariant-loop-row : goal.invariant-loop-row
invariant-loop-row l = lent l.out.items ≡ lent l.fn.out.items ++ take l.row-index l.rows
