use Rattle.std.proofs.Common.{arith}
use Rattle.ded_picture.proofs.Cornering.{goes_next, goes_last}
use Rattle.ded_picture.proofs.windowing.corners_of.Goals as goal

pub loop-sight-preserved : goal.loop-sight-preserved
loop-sight-preserved c = goes_next c.args.sights.now c.args.sights.now c.loop-sight.sight-index c.sight-item.result _ _ c.loop-sight-test.true c.sight-item.is c.loop-sight.invariant c.in_ok-add_corners_of.ensures

pub returns : goal.returns
returns c = goes_last c.args.sights.now c.args.sights.now c.loop-sight.sight-index _ (omega (arith, c.loop-sight-test.false)) c.loop-sight.invariant
