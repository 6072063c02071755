use Rattle.ded_genrel.specs.Rounds.{AreRational}
use Rattle.ded_complement.proofs.boxed.bounded_slots.Given as goal

abbrev pub invariant-loop-number : goal.invariant-loop-number
invariant-loop-number g l = AreRational l.slots.items
