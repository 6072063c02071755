use Rattle.std.proofs.Common.{arith}
use Rattle.ded_picture.proofs.Within.{shown_within}
use Rattle.ded_picture.proofs.Showing.{goes_next, goes_last}
use Rattle.ded_picture.proofs.parts.parts_of.Goals as goal

pub loop-sight-preserved : goal.loop-sight-preserved
loop-sight-preserved c = goes_next c.args.window c.args.labels.now.keys c.args.sights.now c.args.sights.now c.loop-sight.sight-index c.sight-item.result _ _ _ _ c.loop-sight-test.true c.sight-item.is c.loop-sight.invariant c.in_ok-add_part.ensures

pub returns-clause-shown : goal.returns-clause-shown
returns-clause-shown c = goes_last c.args.window c.args.labels.now.keys c.args.sights.now c.args.sights.now c.loop-sight.sight-index _ _ (omega (arith, c.loop-sight-test.false)) c.loop-sight.invariant

pub returns-clause-within : goal.returns-clause-within
returns-clause-within c =
    shown_within c.args.window c.args.labels.now.keys c.args.sights.now _ _
    (goes_last c.args.window c.args.labels.now.keys c.args.sights.now c.args.sights.now c.loop-sight.sight-index _ _ (omega (arith, c.loop-sight-test.false)) c.loop-sight.invariant)
