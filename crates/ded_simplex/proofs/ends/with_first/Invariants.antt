use Rattle.std.proofs.Common.{◌≡◌, ◌∷◌, take}
use Rattle.ded_weighing.specs.Columns.{lent}
use Rattle.ded_simplex.proofs.ends.with_first.Given as goal

abbrev pub invariant-loop-row : goal.invariant-loop-row
invariant-loop-row l = lent l.all.items ≡ l.first ∷ take l.row-index l.rows
