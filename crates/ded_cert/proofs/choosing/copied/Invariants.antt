use Rattle.std.proofs.Common.{◌≡◌, ◌++◌, drop}
use Rattle.ded_weighing.specs.Columns.{lent}
use Rattle.ded_cert.proofs.choosing.copied.Given as goal

abbrev pub invariant-loop-row : goal.invariant-loop-row
invariant-loop-row l = l.copies.items ++ lent (drop l.row-index l.rows) ≡ lent l.rows
