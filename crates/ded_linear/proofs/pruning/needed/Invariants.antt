use Rattle.std.proofs.Common.{◌++◌, drop}
use Rattle.ded_linear.specs.Prunings.{IsPruned}
use Rattle.ded_linear.proofs.pruning.needed.Given as goal

abbrev pub invariant-loop-i : goal.invariant-loop-i
invariant-loop-i l = IsPruned (l.kept.rows.items ++ drop l.i l.rows) l.rows
