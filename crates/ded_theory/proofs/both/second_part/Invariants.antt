use Rattle.std.proofs.Common.{◌≡◌, ◌++◌, drop}
use Rattle.ded_theory.specs.Both.{seconds}
use Rattle.ded_theory.proofs.both.second_part.Given as goal

abbrev pub invariant-loop-atom : goal.invariant-loop-atom
invariant-loop-atom g l = l.part.items ++ seconds (drop l.atom-index l.atoms) ≡ seconds l.atoms
