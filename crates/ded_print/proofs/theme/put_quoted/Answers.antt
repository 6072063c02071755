-- A quote, the text, and a quote.
use Rattle.ded_print.proofs.Gathering.{puts_both}
use Rattle.ded_print.proofs.theme.put_quoted.Goals as goal

pub returns : goal.returns
returns g c = puts_both _ _ _ _ _ c.put.ensures (puts_both _ _ _ _ _ c.put_doubled.ensures c.put-2.ensures)
