-- One digit more leaves room for those behind it.
use Rattle.std.proofs.Common.{rules, arith, ◌≤◌, ◌+◌}
use Rattle.ded_axes.proofs.Powers.{stops, below, next_fits, next_below}
use Rattle.ded_axes.proofs.reading.+digits.Goals as goal

pub returns-in_default-clause-number : goal.returns-in_default-clause-number
returns-in_default-clause-number t c = stops c.args.number _

pub followed-requires-clause-number : goal.followed-requires-clause-number
followed-requires-clause-number t c = below c.args.number _ _ c.requires.short

pub digits-requires : goal.digits-requires
digits-requires t c =
    let count : c.args.count + 1 ≤ c.args.most = let h = c.if-count-most.true in omega (arith, h) in
    let short = next_fits c.args.number c.followed.result c.args.most c.args.count _ c.followed.ensures.less c.if-count-most.true c.requires.short in
    (search rules, (count, short))

pub returns-then-count-most-clause-number : goal.returns-then-count-most-clause-number
returns-then-count-most-clause-number t c = next_below c.args.number c.followed.result c.args.most c.args.count _ c.followed.ensures.less c.if-count-most.true c.digits.ensures.number

pub returns-clause-number : goal.returns-clause-number
returns-clause-number t c = stops c.args.number _
