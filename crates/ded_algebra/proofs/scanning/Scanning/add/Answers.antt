use Rattle.std.proofs.Common.{◌≤◌, sym, ap, subst, ◌∙◌, arith}
use Rattle.ded_model.specs.Point.{stands_in}
use Rattle.ded_model.specs.Scanned.{above_place}
use Rattle.ded_algebra.specs.Gathering.{IsApart}
use Rattle.ded_algebra.proofs.Apart.{apart_old}
use Rattle.ded_algebra.proofs.scanning.Scanning.add.Goals as goal

pub returns-in_ok-push-in-At-clause-apart : goal.returns-in_ok-push-in-At-clause-apart
returns-in_ok-push-in-At-clause-apart c =
    let s = c.in-At.slot in
    let above = subst (λ t. above_place t ≤ c.args.self.now.next) c.in-At.is c.requires.above in
    subst (IsApart c.args.self.now.next) (sym c.in_ok-push-in-At.ensures.items)
    (apart_old c.args.self.now.next c.args.self.now.slots.items s c.requires.apart (omega (arith, above))
    (sym (c.stands_in.ensures ∙ ap (λ ss. stands_in ss s) c.deref.ensures.value) ∙ c.if-not-stands_in.true))
