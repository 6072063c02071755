use Rattle.std.specs.Prelude.{option_map}
use Rattle.ded_shared.proofs.LeastName.{least_next}
use Rattle.ded_shared.proofs.least.conflict.Goals as goal

pub loop-name-preserved : goal.loop-name-preserved
loop-name-preserved c = least_next c.args.touched.now c.args.stale.now c.loop-name.name-index c.name-item.result (option_map (λ n. n.now) c.loop-name.least) (option_map (λ n. n.now) c.lesser-least.result) c.loop-name-test.true c.name-item.is c.loop-name.invariant c.lesser-least.ensures
