use Rattle.std.proofs.Common.{◌≡◌, ◌++◌}
use Rattle.ded_relation.proofs.copying.copy_tuples.Given as goal

abbrev pub invariant-loop-number : goal.invariant-loop-number
invariant-loop-number l = l.copies.entries ++ l.number-iterator ≡ l.tuples.entries
