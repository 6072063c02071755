use Rattle.ded_keep.proofs.Unmet.{unlike_tuple}
use Rattle.ded_keep.proofs.unlike.is_unlike_one.Goals as goal

pub returns-then-are_unlike : goal.returns-then-are_unlike
returns-then-are_unlike c e = unlike_tuple c.args.atom.now c.args.others.now c.loop-other.other-index c.other-item.result c.loop-other-test.true c.other-item.is (c.are_unlike.ensures c.if-are_unlike.true)
