use Rattle.std.proofs.Common.{◌≡◌, ◌++◌, take}
use Rattle.ded_genrel.proofs.conjunction.push_atoms.Given as goal

abbrev pub invariant-loop-atom : goal.invariant-loop-atom
invariant-loop-atom g l = l.conj.items ≡ l.fn.conj.items ++ take l.atom-index l.atoms
