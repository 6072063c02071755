use Rattle.ded_genrel.specs.Rounds.{AreRational}
use Rattle.ded_eval.proofs.slots.+rational_slots.Given as goal

abbrev pub invariant-slots_of_parts-loop-part : goal.invariant-slots_of_parts-loop-part
invariant-slots_of_parts-loop-part l = AreRational l.slots.items
