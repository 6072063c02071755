use Rattle.std.proofs.Common.{rules, ◌≡◌, ◌-◌, ◌^◌, ◌<◌, length}
use Rattle.ded_hull.proofs.Merged.{counted_tree}
use Rattle.ded_hull.proofs.hulls.count_in.Goals as goal

pub loop-i-preserved : goal.loop-i-preserved
loop-i-preserved c =
    let inside : c.loop-i.i < length c.args.trees.now = search rules in
    let own : c.len.result ≡ length c.index-trees-i.result = search rules in
    counted_tree (2 ^ 64 - 1) c.loop-i.count c.len.result c.saturating_add-count.result c.args.trees.now c.loop-i.i c.index-trees-i.result inside c.index-trees-i.is c.loop-i.invariant c.saturating_add-count.ensures own
