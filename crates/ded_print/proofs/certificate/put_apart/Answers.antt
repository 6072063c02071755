-- The count, the lines, and the end.
use Rattle.std.specs.Prelude.{codes}
use Rattle.ded_print.proofs.Gathering.{puts_both}
use Rattle.ded_print.proofs.Answers.{counted}
use Rattle.ded_print.proofs.certificate.put_apart.Goals as goal

pub returns : goal.returns
returns g c =
    counted _ _ (codes "apart") _ _
    (puts_both _ _ _ _ _ c.put.ensures (puts_both _ _ _ _ _ c.put_natural.ensures (puts_both _ _ _ _ _ c.put-2.ensures (puts_both _ _ _ _ _ c.put_entries.ensures c.put-3.ensures))))
