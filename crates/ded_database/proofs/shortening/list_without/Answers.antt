use Rattle.std.proofs.Common.{Vec, Global, sym, ◌∙◌, subst}
use Rattle.std.specs.Prelude.{IfSome}
use Rattle.ded_model.specs.Constraint.{LinearConstraint}
use Rattle.ded_database.specs.Changes.{before, after}
use Rattle.ded_database.specs.Lasting.{HasLinesBut}
use Rattle.ded_database.proofs.LostViews.{lines_but}
use Rattle.ded_database.proofs.shortening.list_without.Goals as goal

pub settled-requires-clause-but : goal.settled-requires-clause-but
settled-requires-clause-but g c =
    let b = before c.args.renewal.now.change.now in
    let d = after c.args.renewal.now.change.now in
    let v = c.args.renewal.now.mark.now.name in
    c.in-Ok.ensures.is c.deref-in-Ok.result.now
    (subst (λ ls. HasLinesBut b d v ls c.args.list) (sym c.deref-in-Ok.ensures.value)
    (subst (HasLinesBut b d v c.in-Some.lost.items) (c.deref.ensures.value ∙ c.list.view_is)
    (subst (λ o. IfSome o (λ (w : Vec LinearConstraint Global). HasLinesBut b d v w.items c.deref.result.now)) c.in-Some.is c.in_ok-lost.ensures)))

pub settled-requires-clause-loses : goal.settled-requires-clause-loses
settled-requires-clause-loses g c = λ more k. c.in-Ok.ensures.is more (lines_but (before c.args.renewal.now.change.now) (after c.args.renewal.now.change.now) c.args.renewal.now.mark.now.name more c.args.list c.requires.list k)
