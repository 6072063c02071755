use Rattle.std.proofs.Common.{◌≡◌}
use Rattle.ded_order.proofs.lists.atoms_of.Given as goal

abbrev pub invariant-loop-row : goal.invariant-loop-row
invariant-loop-row l = l.atoms.items ≡ l.yielded
