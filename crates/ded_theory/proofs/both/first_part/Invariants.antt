use Rattle.std.proofs.Common.{◌≡◌, ◌++◌, drop}
use Rattle.ded_theory.specs.Both.{firsts}
use Rattle.ded_theory.proofs.both.first_part.Given as goal

abbrev pub invariant-loop-atom : goal.invariant-loop-atom
invariant-loop-atom g l = l.part.items ++ firsts (drop l.atom-index l.atoms) ≡ firsts l.atoms
