use Rattle.std.proofs.Common.{◌∙◌, ap, subst}
use Rattle.ded_model.specs.Cell.{conj_holds, HoldsSomewhere}
use Rattle.ded_model.specs.Row.{row_holds}
use Rattle.ded_weighing.specs.Columns.{lent}
use Rattle.ded_cert.specs.Seeking.{IsSought}
use Rattle.ded_cert.proofs.Meeting.{common_point}
use Rattle.ded_cert.proofs.certifying.certify.Goals as goal

pub returns-in-Somewhere-clause-is : goal.returns-in-Somewhere-clause-is
returns-in-Somewhere-clause-is c =
    common_point c.args.first.now c.args.second.now c.in_ok-rows_of.ensures.tuples.0 c.in_ok-rows_of.ensures.tuples.1
    (subst (λ rs. HoldsSomewhere (conj_holds row_holds rs)) (ap lent c.deref.ensures.value ∙ c.in_ok-rows_of.ensures.value) (subst (IsSought (lent c.deref.result.now)) c.in-Somewhere.is c.in_ok-seek.ensures))
    (c.in_ok-texts_refute.ensures.somewhere c.if-branch.false)
