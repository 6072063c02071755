use Rattle.std.proofs.Common.{◌≡◌, ◌++◌, drop}
use Rattle.ded_theory.specs.Both.{seconds}
use Rattle.ded_shapes.proofs.parts.texts_of.Given as goal

abbrev pub invariant-loop-atom : goal.invariant-loop-atom
invariant-loop-atom l = l.texts.items ++ seconds (drop l.atom-index l.atoms) ≡ seconds l.atoms
