-- The numbers, the proof, and a line feed.
use Rattle.ded_print.proofs.Certificates.{entry_parts}
use Rattle.ded_print.proofs.Gathering.{puts_both}
use Rattle.ded_print.proofs.certificate.put_entry.Goals as goal

pub returns : goal.returns
returns g c =
    entry_parts _ _ _ _ _
    (puts_both _ _ _ _ _ c.put_natural.ensures (puts_both _ _ _ _ _ c.put.ensures (puts_both _ _ _ _ _ c.put_natural-2.ensures (puts_both _ _ _ _ _ c.put-2.ensures (puts_both _ _ _ _ _ c.put_proof.ensures c.put-3.ensures)))))
