use Rattle.std.proofs.Common.{◌≡◌, ◌++◌}
use Rattle.ded_session.proofs.stored.StoredTuples.copy_of.Given as goal

abbrev pub invariant-loop-number : goal.invariant-loop-number
invariant-loop-number l = l.list.items ++ l.number-iterator ≡ l.stored.entries
