use Rattle.std.proofs.Common.{refl, sym, true≢false, arith}
use Rattle.std.proofs.lemmas.Int.{ints}
use Rattle.ded_polygon.proofs.Places.{in_read}
use Rattle.ded_polygon.proofs.Seen.{none_excludes}
use Rattle.ded_polygon.proofs.vertices.lies_in.Goals as goal

pub returns : goal.returns
returns c = (λ h. none_excludes c.args.sides.now c.loop-side.side-index c.loop-side-test.false c.args.corner c.loop-side.invariant, λ h. refl)

pub returns-then-excludes : goal.returns-then-excludes
returns-then-excludes c = (
  λ h. absurd (true≢false (sym h)),
  λ h.
      let most = h c.side-item.result (in_read c.args.sides.now c.loop-side.side-index _ c.loop-side-test.true c.side-item.is) in
      let above = c.if-excludes.ensures.0 refl in
      absurd (omega (arith, ints)),
)
