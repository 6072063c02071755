use Rattle.std.proofs.Common.{rules, ◌≡◌, ◌∙◌}
use Rattle.ded_ranges.proofs.Terms.{in_order_none, in_order_more}
use Rattle.ded_ranges.proofs.reach.Reach.in_order.Goals as goal

pub loop-place-init : goal.loop-place-init
loop-place-init c = in_order_none c.args.self.now c.in_ok-ranges.ranges.items c.in_ok-ranges.ensures.items

pub loop-place-preserved : goal.loop-place-preserved
loop-place-preserved c =
    in_order_more c.args.self.now c.loop-place.ranges.items c.push.new.self.items c.loop-place.place c.at.result c.in_order.result c.in_ok-push.ensures.ok c.at.ensures c.in_order.ensures.ends c.in_order.ensures.lies c.loop-place.invariant

pub returns-clause-width : goal.returns-clause-width
returns-clause-width c =
    let end : c.loop-place.place ≡ c.args.width = search rules in
    c.loop-place.invariant.width ∙ end

pub returns-clause-ends : goal.returns-clause-ends
returns-clause-ends c = c.loop-place.invariant.ends

pub returns-clause-lies : goal.returns-clause-lies
returns-clause-lies c = c.loop-place.invariant.lies
