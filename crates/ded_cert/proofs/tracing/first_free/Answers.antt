use Rattle.std.proofs.Common.{◌∙◌, arith, ap, subst}
use Rattle.std.specs.Borrow.{Bor}
use Rattle.ded_model.specs.Constraint.{LinearConstraint}
use Rattle.ded_model.specs.Coefs.{AllBelow}
use Rattle.ded_cert.proofs.Below.{rows_more}
use Rattle.ded_cert.proofs.tracing.first_free.Goals as goal

pub loop-row-preserved : goal.loop-row-preserved
loop-row-preserved c = λ h.
    rows_more c.loop-row.least c.above-least.result c.args.rows.now c.loop-row.row-index c.row-item.result c.loop-row-test.true c.row-item.is c.above-least.ensures.least
    (c.loop-row.invariant (omega (arith, h, c.above-least.ensures.least)))
    (subst (AllBelow c.above-least.result) (c.list.ensures.value ∙ ap (λ (r : Bor LinearConstraint). r.now.coefs) c.row.view_is) (c.above-least.ensures.above h))
