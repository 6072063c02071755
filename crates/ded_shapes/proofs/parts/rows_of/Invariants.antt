use Rattle.std.proofs.Common.{◌≡◌, ◌++◌, drop}
use Rattle.ded_theory.specs.Both.{firsts}
use Rattle.ded_shapes.proofs.parts.rows_of.Given as goal

abbrev pub invariant-loop-atom : goal.invariant-loop-atom
invariant-loop-atom l = l.rows.items ++ firsts (drop l.atom-index l.atoms) ≡ firsts l.atoms
