-- The first slot, and the later ones.
use Rattle.std.proofs.Common.{ap, sym}
use Rattle.ded_print.specs.Plans.{slots_text}
use Rattle.ded_print.proofs.Gathering.{puts_both, puts_as}
use Rattle.ded_print.proofs.plan.put_slots.Goals as goal

pub returns-in-Some : goal.returns-in-Some
returns-in-Some g c = puts_as _ _ _ _ (ap slots_text (sym c.in-Some.ensures.cases.0)) (puts_both _ _ _ _ _ c.put_name.ensures c.put_later_slots.ensures)
