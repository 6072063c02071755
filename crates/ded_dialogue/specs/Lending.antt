-- A dialogue whose machine is lent.
use Rattle.std.specs.Borrow.{Lends, MutBor, Fml, RattleType}
use Rattle.ded_dialogue.specs.declared.dialogue.Dialogue.{Dialogue}
use Rattle.ded_dialogue.specs.contracts.dialogue.Dialogue.{the_row}

-- the dialogue with this machine
abbrev pub with_machine : {A : Type 0} → Dialogue A → A → Dialogue A
with_machine dialogue machine = record dialogue { machine = machine }

-- the dialogue ends with the machine that the borrower leaves
abbrev pub lends_machine : (A : RattleType) → MutBor (Dialogue A.Denot) → MutBor A.Denot → Fml
lends_machine A dialogue lent = Lends (the_row A) A dialogue lent (with_machine dialogue.now)
