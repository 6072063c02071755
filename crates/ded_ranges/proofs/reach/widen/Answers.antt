use Rattle.std.proofs.Common.{rules, ◌≡◌, ◌∙◌, ◌<◌, sym, ap, List, length, get_or, set, add-one, ap₂}
use Rattle.ded_ranges.specs.declared.reach.Range.{Range}
use Rattle.ded_ranges.specs.Reaches.{range_at, joined}
use Rattle.ded_ranges.proofs.Widened.{widened, widened_at, widened_more, widened_all, widened-length}
use Rattle.ded_ranges.proofs.reach.widen.Goals as goal

pub loop-i-preserved : goal.loop-i-preserved
loop-i-preserved c =
    let old = c.args.ranges.now in
    let i = c.loop-i.i in
    let count : length c.loop-i.ranges ≡ length old = ap (λ (rs : List Range). length rs) c.loop-i.invariant ∙ widened-length old c.args.other.now i in
    let inside : i < length old = search (rules, count) in
    let own : c.index-ranges-i.result ≡ range_at old i = c.index-ranges-i.is ∙ ap (λ (rs : List Range). get_or rs i c.index-ranges-i.result) c.loop-i.invariant ∙ widened_at old c.args.other.now i c.index-ranges-i.result inside in
    let new : c.joined.result ≡ joined (range_at old i) (range_at c.args.other.now i) = c.joined.ensures ∙ ap₂ joined own c.range_at.ensures in
    ap (λ (rs : List Range). set rs i c.joined.result) c.loop-i.invariant ∙ widened_more old c.args.other.now i c.joined.result inside new ∙ ap (widened old c.args.other.now) (sym (add-one i))

pub returns : goal.returns
returns c =
    let old = c.args.ranges.now in
    let whole : c.loop-i.i ≡ length old = search rules in
    c.loop-i.invariant ∙ ap (widened old c.args.other.now) whole ∙ widened_all old c.args.other.now
