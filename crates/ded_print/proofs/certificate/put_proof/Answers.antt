-- A colon, and the numbers.
use Rattle.std.proofs.Common.{◌++◌, ◌∙◌, sym, ap}
use Rattle.std.specs.Prelude.{codes}
use Rattle.ded_print.specs.Certificates.{multipliers_text, proof_text}
use Rattle.ded_print.proofs.Gathering.{puts_both, puts_as}
use Rattle.ded_print.proofs.certificate.put_proof.Goals as goal

pub returns-in-Multipliers : goal.returns-in-Multipliers
returns-in-Multipliers g c =
    puts_as _ _ _ _ (ap (λ ms. codes ":" ++ multipliers_text ms) (c.deref.ensures.value ∙ c.multipliers.view_is) ∙ sym (ap proof_text c.in-Multipliers.is))
    (puts_both _ _ _ _ _ c.put-in-Multipliers.ensures c.put_multipliers.ensures)
