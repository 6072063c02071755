use Rattle.std.proofs.Common.{subst}
use Rattle.std.proofs.lemmas.List.{take_all}
use Rattle.ded_layers.specs.Indexed.{LieIn}
use Rattle.ded_layers.proofs.Convex.{lie_more}
use Rattle.ded_layers.proofs.query.hull_of.Goals as goal

pub loop-i-preserved : goal.loop-i-preserved
loop-i-preserved c =
    lie_more c.loop-i.hull c.widen.new.self c.in_ok-spot_reach.field-0 c.args.corners.now c.loop-i.i c.index-corners-i.result c.loop-i-test.true c.index-corners-i.is c.widen.ensures.own c.widen.ensures.other
    c.spot_reach.ensures.positive c.in_ok-spot_reach.ensures.lies c.loop-i.invariant

pub returns : goal.returns
returns c = subst (LieIn c.loop-i.hull) (take_all c.loop-i.i c.args.corners.now c.loop-i-test.false) c.loop-i.invariant
