use Rattle.std.proofs.Common.{◌≡◌, drop}
use Rattle.ded_atoms.specs.Orders.{are_orders}
use Rattle.ded_atoms.proofs.ordering.are_orders.Given as goal

abbrev pub invariant-loop-atom : goal.invariant-loop-atom
invariant-loop-atom l = are_orders (drop l.atom-index l.atoms) ≡ are_orders l.atoms
