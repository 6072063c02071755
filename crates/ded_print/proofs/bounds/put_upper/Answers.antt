-- The bracket and the fraction.
use Rattle.std.proofs.Common.{sym, ap}
use Rattle.ded_print.specs.Boxes.{upper_text}
use Rattle.ded_print.proofs.Gathering.{puts_both, puts_as}
use Rattle.ded_print.proofs.bounds.put_upper.Goals as goal

pub returns-in-Excluded : goal.returns-in-Excluded
returns-in-Excluded g c = puts_as _ _ _ _ (ap upper_text (sym c.in-Excluded.is)) (puts_both _ _ _ _ _ c.put_fraction.ensures c.put-in-Excluded.ensures)

pub returns-in-Included : goal.returns-in-Included
returns-in-Included g c = puts_as _ _ _ _ (ap upper_text (sym c.in-Included.is)) (puts_both _ _ _ _ _ c.put_fraction-in-Included.ensures c.put-in-Included.ensures)
