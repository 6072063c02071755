use Rattle.std.proofs.Common.{subst}
use Rattle.ded_model.specs.Constraint.{LinearConstraint}
use Rattle.ded_model.specs.Coefs.{AreCoefs}
use Rattle.ded_algebra.proofs.ArgumentRows.{argument_not_true}
use Rattle.ded_algebra.proofs.arguments.argument_row.Goals as goal

pub returns-clause-normal : goal.returns-clause-normal
returns-clause-normal c = (
  subst (λ (r : LinearConstraint). AreCoefs r.coefs) c.row.view_is c.list.ensures.coefs,
  c.normal-row.ensures.normal,
  argument_not_true c.args.slot _ _ _ _ c.normal-row.result c.in_ok-argument_coefs.ensures c.normal-row.ensures.value,
)
