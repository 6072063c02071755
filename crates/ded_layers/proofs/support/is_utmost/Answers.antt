use Rattle.ded_polygon.proofs.Places.{in_read}
use Rattle.ded_layers.proofs.support.is_utmost.Goals as goal

pub is_between-requires-clause-among : goal.is_between-requires-clause-among
is_between-requires-clause-among c = in_read c.args.planes.now c.loop-first.first-index c.first-item.result c.loop-first-test.true c.first-item.is
