use Rattle.std.proofs.Common.{arith}
use Rattle.ded_figures.proofs.Sighting.{all_sights}
use Rattle.ded_figures.proofs.sight.add_sights.Goals as goal

pub returns : goal.returns
returns c = all_sights _ _ _ c.args.tuples.now c.loop-tuple.tuple-index _ (omega (arith, c.loop-tuple-test.false)) c.loop-tuple.invariant
