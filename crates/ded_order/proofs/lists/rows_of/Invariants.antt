use Rattle.std.proofs.Common.{◌≡◌, take}
use Rattle.ded_order.proofs.lists.rows_of.Given as goal

abbrev pub invariant-loop-atom : goal.invariant-loop-atom
invariant-loop-atom l = l.rows.items ≡ take l.atom-index l.atoms
