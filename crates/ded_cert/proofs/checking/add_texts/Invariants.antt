use Rattle.std.proofs.Common.{◌≡◌, ◌++◌, drop}
use Rattle.ded_theory.specs.Both.{seconds}
use Rattle.ded_cert.proofs.checking.add_texts.Given as goal

abbrev pub invariant-loop-atom : goal.invariant-loop-atom
invariant-loop-atom l = l.texts.items ++ seconds (drop l.atom-index l.atoms) ≡ l.initial.texts.items ++ seconds l.atoms
