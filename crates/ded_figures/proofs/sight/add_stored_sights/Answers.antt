use Rattle.std.proofs.Common.{arith}
use Rattle.ded_figures.proofs.Sighting.{all_stored}
use Rattle.ded_figures.proofs.sight.add_stored_sights.Goals as goal

pub returns : goal.returns
returns c = all_stored _ _ _ c.args.stored.now c.loop-numbered.numbered-index _ (omega (arith, c.loop-numbered-test.false)) c.loop-numbered.invariant
