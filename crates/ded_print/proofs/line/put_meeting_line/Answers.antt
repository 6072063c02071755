-- The word, both numbers and the line feed are put in order.
use Rattle.std.proofs.Common.{◌∷◌, [], ◌++◌, sym, ap, append_assoc}
use Rattle.std.specs.Prelude.{codes}
use Rattle.ded_print.specs.Numbers.{number_text}
use Rattle.ded_print.proofs.Gathering.{puts_both, puts_as}
use Rattle.ded_print.proofs.line.put_meeting_line.Goals as goal

pub returns : goal.returns
returns g c =
    puts_as _ _ _ _ (ap (λ z. codes "meet " ++ z) (sym (append_assoc (number_text c.args.first) (32 ∷ number_text c.args.second) (10 ∷ []))))
    (puts_both _ _ _ _ _ c.put.ensures (puts_both _ _ _ _ _ c.put_natural.ensures (puts_both _ _ _ _ _ c.put-2.ensures (puts_both _ _ _ _ _ c.put_natural-2.ensures c.put-3.ensures))))
