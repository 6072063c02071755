use Rattle.std.proofs.Common.{ap, ap₂, ◌∙◌}
use Rattle.std.specs.Prelude.{pos, ℤ, List}
use lib.IntN.{neg_ℤ}
use Rattle.ded_model.specs.declared.slot.Slot.{Slot}
use Rattle.ded_model.specs.Sum.{SlotSum}
use Rattle.ded_model.specs.Coefs.{mixed, nonzero}
use Rattle.ded_model.specs.Normal.{normal_row}
use Rattle.ded_resolve.proofs.Denominators.{difference_plain}
use Rattle.ded_resolve.proofs.Differences.{constant_in_code}
use Rattle.ded_resolve.proofs.sums.difference.Goals as goal

pub returns-clause-value : goal.returns-clause-value
returns-clause-value c =
    c.normal.ensures.value
    ∙ ap normal_row (ap₂ (λ (cs : List (Slot × ℤ)) (z : ℤ). record { coefs = cs; constant = z; op = c.args.op })
    (c.in_ok-without.ensures ∙ ap₂ (λ (l r : SlotSum). nonzero (mixed (pos 1) l.coefs (neg_ℤ (pos 1)) r.coefs)) c.left.view_is c.right.view_is)
    (constant_in_code _ _ _ _ (ap (λ (t : SlotSum). t.constant) c.left.view_is) (ap (λ (t : SlotSum). t.constant) c.right.view_is) c.requires.left.constant c.requires.right.constant))
    ∙ difference_plain c.args.left c.args.right.now c.args.op c.requires.shared
