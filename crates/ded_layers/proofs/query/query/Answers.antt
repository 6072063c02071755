use Rattle.std.proofs.Common.{◌≡◌, true, sym, ap, subst}
use Rattle.ded_ranges.specs.declared.reach.Range.{Range}
use Rattle.ded_ranges.specs.Reaches.{IsIn}
use Rattle.ded_ranges.specs.Limits.{are_met}
use Rattle.ded_layers.proofs.Convex.{meet_between}
use Rattle.ded_layers.proofs.query.query.Goals as goal

pub returns : goal.returns
returns c =
    meet_between c.args.corners.now c.in_ok-reach.reach c.add_limits-2.new.limits.items c.in_ok-reach.ensures
    (λ v d h k.
    (let none : are_met v d c.new-limits.result.items ≡ true = ap (are_met v d) c.new-limits.ensures.items in
    let first = c.in_ok-add_limits.ensures v d (subst (λ (r : Range). IsIn r (v 0) d) (sym c.at.ensures) h) none in
    c.in_ok-add_limits-2.ensures v d (subst (λ (r : Range). IsIn r (v 1) d) (sym c.at-2.ensures) k) first))
