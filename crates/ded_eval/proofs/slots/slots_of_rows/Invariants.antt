use Rattle.ded_genrel.specs.Rounds.{AreRational}
use Rattle.ded_eval.proofs.slots.slots_of_rows.Given as goal

abbrev pub invariant-loop-part : goal.invariant-loop-part
invariant-loop-part l = AreRational l.slots.items
