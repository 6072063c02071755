use Rattle.std.proofs.Common.{rules, arith, ◌≡◌, ◌∙◌, ◌+◌, ◌-◌, ◌/◌, ◌^◌, ◌<◌, ◌≤◌, length, drop, get_or, ap, subst}
use Rattle.ded_hull.specs.Trees.{all_of}
use Rattle.ded_hull.proofs.Falling.{kept_start, kept_more, room_kept}
use Rattle.ded_hull.proofs.hulls.kept.Goals as goal

pub loop-keep-init : goal.loop-keep-init
loop-keep-init c =
    let fits : c.args.behind < 2 ^ 64 = search rules in
    (omega arith, kept_start c.args.trees.now c.args.behind fits)

pub loop-keep-preserved : goal.loop-keep-preserved
loop-keep-preserved c =
    let keep = c.loop-keep.keep in
    let inside : keep ≤ length c.args.trees.now = c.loop-keep.invariant.0 in
    (omega (arith, inside), kept_more c.args.trees.now keep c.args.behind c.loop-keep.behind c.saturating_add-behind.result c.len-in-loop-keep.result (2 ^ 64 - 1) c.index-trees-keep-in-loop-keep.result c.loop-keep-test.true inside c.index-trees-keep-in-loop-keep.is c.loop-keep.invariant.1 c.len-in-loop-keep.ensures c.saturating_add-behind.ensures)

pub returns-else-len-behind-clause-room : goal.returns-else-len-behind-clause-room
returns-else-len-behind-clause-room c =
    let t = c.index-trees-keep.result in
    let ts = c.args.trees.now in
    let keep = c.loop-keep.keep in
    let own : c.len.result ≡ length (get_or ts (keep - 1) t) = c.len.ensures ∙ ap (λ u. length u) c.index-trees-keep.is in
    let fits : c.len.result ≤ 2 ^ 64 - 1 = search rules in
    room_kept ts keep (length (all_of (drop keep ts)) + c.args.behind) c.loop-keep.behind (2 ^ 64 - 1) t c.loop-keep-test.true c.loop-keep.invariant.0 c.loop-keep.invariant.1
    (subst (λ n. c.loop-keep.behind ≤ n / 2) own c.if-len-behind.false) (subst (λ n. n ≤ 2 ^ 64 - 1) own fits) (omega arith)
