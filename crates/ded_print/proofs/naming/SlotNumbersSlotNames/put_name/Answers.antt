-- The letter and the number.
use Rattle.std.proofs.Common.{ap}
use Rattle.ded_print.specs.Numbers.{number_text}
use Rattle.ded_print.proofs.Gathering.{puts_both, puts_as}
use Rattle.ded_print.proofs.naming.SlotNumbersSlotNames.put_name.Goals as goal

pub returns : goal.returns
returns g c = puts_both _ _ _ _ _ c.put.ensures (puts_as _ _ _ _ (ap number_text c.from.ensures) c.put_natural.ensures)
