use Rattle.std.proofs.Common.{refl, sym, true≢false}
use Rattle.ded_polygon.proofs.Places.{in_read}
use Rattle.ded_polygon.proofs.Mentions.{all_mention}
use Rattle.ded_polygon.proofs.reading.mention_only.Goals as goal

pub returns : goal.returns
returns c = (λ h. all_mention c.args.x c.args.y c.args.rows.now c.loop-row.row-index c.loop-row-test.false c.loop-row.invariant, λ h. refl)

pub returns-then-not-mentions_only : goal.returns-then-not-mentions_only
returns-then-not-mentions_only c = (
  λ h. absurd (true≢false (sym h)),
  λ h. absurd (true≢false (sym (c.if-not-mentions_only.ensures.1 (h c.row-item.result (in_read c.args.rows.now c.loop-row.row-index _ c.loop-row-test.true c.row-item.is))))),
)
