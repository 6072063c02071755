use Rattle.std.proofs.Common.{◌≡◌, []}
use Rattle.ded_theory.specs.Both.{firsts, seconds}
use Rattle.ded_theory.proofs.both.joined.Given as goal

abbrev pub invariant-loop-atom : goal.invariant-loop-atom
invariant-loop-atom g l = (firsts l.atoms.items ≡ []) × (seconds l.atoms.items ≡ l.yielded)

abbrev pub invariant-loop-atom-2 : goal.invariant-loop-atom-2
invariant-loop-atom-2 g l = (firsts l.atoms.items ≡ l.yielded) × (seconds l.atoms.items ≡ l.fn.second.items)
