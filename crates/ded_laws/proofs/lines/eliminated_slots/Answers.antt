use Rattle.ded_model.proofs.LineSlots.{elim_without, elim_slots}
use Rattle.ded_laws.proofs.lines.eliminated_slots.Goals as goal

pub returns-clause-without : goal.returns-clause-without
returns-clause-without c = elim_without

pub returns-clause-over : goal.returns-clause-over
returns-clause-over c = λ s ls l t i m. (elim_slots s ls l t i m).1
