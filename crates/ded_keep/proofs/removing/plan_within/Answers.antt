use Rattle.std.proofs.Common.{◌≡◌, true, ◌∙◌, subst}
use Rattle.ded_model.specs.PlanForm.{plan_form}
use Rattle.ded_model.specs.Row.{tuples_hold}
use Rattle.ded_keep.specs.Remaining.{AreOfBoth}
use Rattle.ded_keep.proofs.Leaving.{within_pieces, within_whole}
use Rattle.ded_keep.proofs.removing.plan_within.Goals as goal

pub returns-then-has-clause-is : goal.returns-then-has-clause-is
returns-then-has-clause-is g c =
    within_whole (g.A.Relations.catalogue c.args.after.now) (plan_form c.args.plan.now) c.args.tuple c.in_ok-found.found c.in_ok-found.ensures.is c.in_ok-pieces.pieces c.in_ok-single.field-0
    (subst (λ us. AreOfBoth c.args.tuple us c.in_ok-pieces.pieces) (c.deref.ensures.value ∙ c.found.view_is) c.in_ok-pieces.ensures)
    (λ p h. subst (λ us. tuples_hold us p ≡ true) (c.deref-2.ensures.value ∙ c.pieces.view_is) (c.has.ensures c.if-has.true p h)) c.in_ok-single.ensures

pub returns-clause-is : goal.returns-clause-is
returns-clause-is g c =
    within_pieces (g.A.Relations.catalogue c.args.after.now) (plan_form c.args.plan.now) c.args.tuple c.in_ok-found.found c.in_ok-found.ensures.is c.in_ok-pieces.pieces
    (subst (λ us. AreOfBoth c.args.tuple us c.in_ok-pieces.pieces) (c.deref.ensures.value ∙ c.found.view_is) c.in_ok-pieces.ensures)
