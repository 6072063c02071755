use Rattle.std.proofs.Common.{rules, ◌<◌, length, sym}
use Rattle.ded_ranges.specs.Limits.{is_met, may_meet}
use Rattle.ded_ranges.proofs.Columns.{all_before}
use Rattle.ded_ranges.proofs.window.narrow_by.Goals as goal

pub loop-i-preserved : goal.loop-i-preserved
loop-i-preserved c =
    let inside : c.loop-i.i < length c.args.limits.now = search rules in (
      λ v d l h.
          let k = all_before (is_met v d) c.args.limits.now c.loop-i.i c.index-limits-i.result inside (sym c.index-limits-i.is) h in
          c.narrow_by_limit.ensures.lies v d (c.loop-i.invariant.0 v d l k.0) k.1,
      λ rs o h.
          let k = all_before (may_meet rs) c.args.limits.now c.loop-i.i c.index-limits-i.result inside (sym c.index-limits-i.is) h in
          c.narrow_by_limit.ensures.around rs (c.loop-i.invariant.1 rs o k.0) k.1,
    )
