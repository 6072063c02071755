use Rattle.std.proofs.Common.{◌||◌, ap, ap₂, sym, ◌∙◌, SFits}
use Rattle.std.specs.Int.{w128}
use Rattle.std.proofs.lemmas.Int.{to_z-of_z, fits_signed_from_abs}
use Rattle.ded_model.proofs.Rows.{or_right}
use Rattle.ded_model.specs.Constraint.{LinearConstraint}
use Rattle.ded_row.specs.Mixing.{sum_is_long, coefs_are_long}
use Rattle.ded_row.proofs.Walks.{sum_is_short, sum_is_long_where}
use Rattle.ded_row.proofs.mixing.combined.Goals as goal

pub returns-in_default-clause-wide : goal.returns-in_default-clause-wide
returns-in_default-clause-wide c = λ e.
    let fk : SFits w128 c.args.k = c.ranges.k in
    let fm : SFits w128 c.args.m = c.ranges.m in
    let f1 : SFits w128 c.r1.inside.constant = fits_signed_from_abs w128 _ c.r1.invariant in
    let f2 : SFits w128 c.r2.inside.constant = fits_signed_from_abs w128 _ c.r2.invariant in
    let exact = simp to_z-of_z at c.in_default.ensures in
    or_right (coefs_are_long c.args.slot c.args.k c.args.r1.now.coefs c.args.m c.args.r2.now.coefs) _
    (ap₂ (λ (q r : LinearConstraint). sum_is_long c.args.k q.constant c.args.m r.constant) (sym c.r1.view_is) (sym c.r2.view_is)
    ∙ sum_is_long_where c.args.k c.r1.inside.constant c.args.m c.r2.inside.constant exact)

pub returns-clause-short : goal.returns-clause-short
returns-clause-short c =
    let fk : SFits w128 c.args.k = c.ranges.k in
    let fm : SFits w128 c.args.m = c.ranges.m in
    let f1 : SFits w128 c.r1.inside.constant = fits_signed_from_abs w128 _ c.r1.invariant in
    let f2 : SFits w128 c.r2.inside.constant = fits_signed_from_abs w128 _ c.r2.invariant in
    let exact = simp to_z-of_z at c.in-Some.ensures in
    let coefs = simp to_z-of_z at c.in_ok-coefs.ensures.short in
    let xs = c.list.ensures.value ∙ ap (λ (r : LinearConstraint). r.coefs) c.r1.view_is in
    let ys = c.list-2.ensures.value ∙ ap (λ (r : LinearConstraint). r.coefs) c.r2.view_is in
    ap₂ (λ p q. p || q)
    (ap₂ (λ us vs. coefs_are_long c.args.slot c.args.k us c.args.m vs) (sym xs) (sym ys) ∙ coefs)
    (ap₂ (λ (q r : LinearConstraint). sum_is_long c.args.k q.constant c.args.m r.constant) (sym c.r1.view_is) (sym c.r2.view_is)
    ∙ sum_is_short c.args.k c.r1.inside.constant c.args.m c.r2.inside.constant exact.0.0 exact.0.1 exact.0.2)
