use Rattle.ded_genrel.specs.Rounds.{AreRational}
use Rattle.ded_eval.proofs.slots.slots_of_atoms.Given as goal

abbrev pub invariant-loop-atom : goal.invariant-loop-atom
invariant-loop-atom l = AreRational l.slots.items
