use Rattle.ded_genrel.specs.Rounds.{AreRational}
use Rattle.ded_eval.proofs.slots.add_coefs.Given as goal

abbrev pub invariant-loop-slot : goal.invariant-loop-slot
invariant-loop-slot l = AreRational l.slots.items
