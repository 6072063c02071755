use Rattle.std.proofs.Common.{◌≡◌, take}
use Rattle.ded_weighing.specs.Columns.{lent}
use Rattle.ded_simplex.proofs.telling.lent.Given as goal

abbrev pub invariant-loop-row : goal.invariant-loop-row
invariant-loop-row l = lent l.lent.items ≡ take l.row-index l.rows
