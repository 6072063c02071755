use Rattle.std.proofs.Common.{◌≡◌, take}
use Rattle.ded_model.proofs.tuple.Tuple.copy.Given as goal

abbrev pub invariant-loop-atom : goal.invariant-loop-atom
invariant-loop-atom l = l.atoms.items ≡ take l.atom-index l.atom-items
