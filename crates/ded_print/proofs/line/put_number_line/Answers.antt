-- The word, the number and the line feed are put in order.
use Rattle.ded_print.proofs.Gathering.{puts_both}
use Rattle.ded_print.proofs.line.put_number_line.Goals as goal

pub returns : goal.returns
returns g c = puts_both _ _ _ _ _ c.put.ensures (puts_both _ _ _ _ _ c.put_natural.ensures c.put-2.ensures)
