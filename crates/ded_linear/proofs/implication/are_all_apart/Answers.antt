use Rattle.std.proofs.Common.{sym, ap, ◌∙◌, subst}
use Rattle.std.specs.List.{AllByRecursion}
use Rattle.ded_model.specs.Cell.{conj_holds, HoldsNowhere}
use Rattle.ded_model.specs.Coefs.{AreCoefs}
use Rattle.ded_model.specs.Constraint.{LinearConstraint}
use Rattle.ded_model.specs.Row.{row_holds}
use Rattle.ded_weighing.specs.Columns.{lent}
use Rattle.ded_simplex.specs.Sure.{IsSure}
use Rattle.ded_linear.proofs.implication.are_all_apart.Goals as goal

pub told_from-requires : goal.told_from-requires
told_from-requires c = subst (λ xs. AllByRecursion (λ (x : LinearConstraint). AreCoefs x.coefs) (lent xs)) (sym c.deref.ensures.value) c.in_ok-rows.ensures.coefs

pub returns-in-Empty : goal.returns-in-Empty
returns-in-Empty c = λ e.
    let rows = ap lent c.deref.ensures.value ∙ c.in_ok-rows.ensures.rows in
    subst (λ xs. HoldsNowhere (conj_holds row_holds xs)) rows (subst (IsSure (lent c.deref.result.now)) c.in-Empty.is c.in_ok-told_from.ensures)
