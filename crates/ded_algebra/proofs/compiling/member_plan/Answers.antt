use Rattle.ded_algebra.proofs.Gathered.{gathering_above, gathering_more}
use Rattle.ded_algebra.proofs.compiling.member_plan.Goals as goal

pub add-requires-clause-above : goal.add-requires-clause-above
add-requires-clause-above c =
    gathering_above c.args.places.now c.loop-place.place-index c.loop-place.scanning c.place-item.result c.loop-place-test.true c.place-item.is c.loop-place.invariant

pub loop-place-preserved : goal.loop-place-preserved
loop-place-preserved c =
    gathering_more c.args.places.now c.loop-place.place-index c.loop-place.scanning c.add.new.self c.place-item.result c.loop-place-test.true c.place-item.is
    c.in_ok-add.ensures.gathered c.in_ok-add.ensures.apart c.in_ok-add.ensures.next c.in_ok-add.ensures.bytes c.loop-place.invariant
