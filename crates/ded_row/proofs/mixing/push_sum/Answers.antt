use Rattle.std.proofs.Common.{ap, ◌∙◌, SFits, rules, of_z}
use Rattle.std.specs.Prelude.{◌+ℤ◌, ◌*ℤ◌}
use Rattle.std.specs.Int.{w128}
use Rattle.std.proofs.lemmas.Int.{to_z-of_z}
use Rattle.ded_row.proofs.Walks.{push_nonzero, sum_is_short}
use Rattle.ded_row.proofs.mixing.push_sum.Goals as goal

pub returns-in_ok-push-clause-ok : goal.returns-in_ok-push-clause-ok
returns-in_ok-push-clause-ok c =
    let fits : SFits w128 c.in-Some.a = search rules in
    let fk : SFits w128 c.args.k = c.ranges.k in
    let fm : SFits w128 c.args.m = c.ranges.m in
    let fa : SFits w128 c.args.next.a = search rules in
    let fb : SFits w128 c.args.next.b = search rules in
    let exact = simp to_z-of_z at c.in-Some.ensures in
    c.in_ok-push.ensures.ok
    ∙ push_nonzero c.args.out.now c.args.next.slot _ (c.args.k *ℤ c.args.next.a +ℤ c.args.m *ℤ c.args.next.b) (to_z-of_z w128 c.in-Some.a fits ∙ exact.1) (λ e. c.if-a-ne0.true (ap (of_z w128) (exact.1 ∙ e)))

pub returns-in_ok-push-clause-short : goal.returns-in_ok-push-clause-short
returns-in_ok-push-clause-short c =
    let fk : SFits w128 c.args.k = c.ranges.k in
    let fm : SFits w128 c.args.m = c.ranges.m in
    let fa : SFits w128 c.args.next.a = search rules in
    let fb : SFits w128 c.args.next.b = search rules in
    let exact = simp to_z-of_z at c.in-Some.ensures in
    sum_is_short c.args.k c.args.next.a c.args.m c.args.next.b exact.0.0 exact.0.1 exact.0.2
