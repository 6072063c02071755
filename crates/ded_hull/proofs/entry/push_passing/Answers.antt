use Rattle.std.proofs.Common.{rules, arith, ◌<◌, length, sym}
use Rattle.ded_hull.proofs.Found.{found_more}
use Rattle.ded_hull.proofs.entry.push_passing.Goals as goal

pub loop-i-preserved : goal.loop-i-preserved
loop-i-preserved g c =
    let inside : c.loop-i.i < length c.args.entries.now = search rules in
    (found_more c.args.probe.now c.args.entries.now c.loop-i.i c.index-entries-i.result c.args.found.now.items c.loop-i.found.items c.push_if_passing.new.found.items inside (sym c.index-entries-i.is) c.loop-i.invariant.0 c.in_ok-push_if_passing.ensures, omega (arith, c.loop-i.invariant.1, c.tick.ensures), omega (arith, c.loop-i.invariant.2, c.tick.ensures))
