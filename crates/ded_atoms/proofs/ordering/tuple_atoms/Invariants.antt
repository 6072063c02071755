use Rattle.std.proofs.Common.{◌≡◌}
use Rattle.ded_atoms.proofs.ordering.tuple_atoms.Given as goal

abbrev pub invariant-loop-atom : goal.invariant-loop-atom
invariant-loop-atom l = l.list.items ≡ l.yielded
