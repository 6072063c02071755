use Rattle.std.proofs.Common.{subst}
use Rattle.ded_model.specs.Coefs.{AreCoefs}
use Rattle.ded_model.specs.Constraint.{LinearConstraint}
use Rattle.ded_linear.proofs.implication.are_three_apart.Goals as goal

pub are_refuted-requires : goal.are_refuted-requires
are_refuted-requires c =
    let first = subst (λ (x : LinearConstraint). AreCoefs x.coefs) c.first.view_is c.list.ensures.coefs in
    let second = subst (λ (x : LinearConstraint). AreCoefs x.coefs) c.second.view_is c.list-2.ensures.coefs in
    let third = subst (λ (x : LinearConstraint). AreCoefs x.coefs) c.third.view_is c.list-3.ensures.coefs in
    (first, (second, (third, tt)))

pub returns : goal.returns
returns c = c.are_refuted.ensures
