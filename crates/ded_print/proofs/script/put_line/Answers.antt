-- The bytes, and a line feed.
use Rattle.ded_print.proofs.Gathering.{puts_both, puts_as}
use Rattle.ded_print.proofs.script.put_line.Goals as goal

pub returns : goal.returns
returns g c = puts_both _ _ _ _ _ (puts_as _ _ _ _ c.name_bytes.ensures c.put.ensures) c.put-2.ensures
