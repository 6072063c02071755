use Rattle.std.proofs.Common.{◌≤◌, ◌∙◌, sym, subst}
use Rattle.ded_ranges.proofs.Around.{overlaps_all}
use Rattle.ded_ranges.proofs.probe.overlaps.Goals as goal

pub returns : goal.returns
returns c =
    let rs = c.args.ranges.now in
    let ss = c.args.others.now in
    sym (overlaps_all rs ss c.loop-i.i (subst (λ n. n ≤ c.loop-i.i) c.min-i-end.ensures c.loop-i-test.false)) ∙ c.loop-i.invariant
