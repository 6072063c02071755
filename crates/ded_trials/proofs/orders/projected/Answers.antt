use Rattle.std.proofs.Common.{sym, subst}
use Rattle.ded_algebra.specs.Evaluation.{IsAnyAtom, IsEvaluable}
use Rattle.ded_algebra.specs.Given.{given_catalogue}
use Rattle.ded_trials.proofs.orders.projected.Goals as goal

pub eval-requires : goal.eval-requires
eval-requires c = subst (IsEvaluable IsAnyAtom (given_catalogue c.new.result)) (sym c.in_ok-plan.ensures) (c.in_ok-union.ensures (given_catalogue c.new.result))
