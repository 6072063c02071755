-- The word, the name, and the slots between brackets.
use Rattle.std.proofs.Common.{ap, ◌∙◌}
use Rattle.ded_print.specs.Plans.{slots_text}
use Rattle.ded_print.proofs.Gathering.{puts_both, puts_as}
use Rattle.ded_print.proofs.plan.put_scan.Goals as goal

pub returns : goal.returns
returns g c =
    let name = puts_as _ _ _ _ c.name_bytes.ensures c.put-2.ensures in
    let slots = puts_as _ _ _ _ (ap slots_text (c.deref.ensures.value ∙ c.slots.view_is)) c.put_slots.ensures in
    puts_both _ _ _ _ _ c.put.ensures (puts_both _ _ _ _ _ name (puts_both _ _ _ _ _ c.put-3.ensures (puts_both _ _ _ _ _ slots c.put-4.ensures)))
