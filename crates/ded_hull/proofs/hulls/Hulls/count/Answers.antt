use Rattle.std.proofs.Common.{rules, ◌≡◌, ◌-◌, ◌^◌, min, length, sym, ap}
use Rattle.ded_hull.specs.Entries.{Hulls}
use Rattle.ded_hull.specs.Trees.{all_of}
use Rattle.ded_hull.proofs.Merged.{counted_more}
use Rattle.ded_hull.proofs.hulls.Hulls.count.Goals as goal

pub returns : goal.returns
returns c =
    let trees : c.count_in.result ≡ min (length (all_of c.self.inside.trees.items)) (2 ^ 64 - 1) = search rules in
    let tail : c.len.result ≡ length c.self.inside.tail.items = search rules in
    counted_more (2 ^ 64 - 1) c.count_in.result c.len.result c.saturating_add.result (all_of c.self.inside.trees.items) c.self.inside.tail.items c.args.self.now.entries (sym (ap (λ (h : Hulls). h.entries) c.self.view_is)) trees c.saturating_add.ensures tail
