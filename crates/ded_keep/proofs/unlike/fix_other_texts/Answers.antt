use Rattle.ded_keep.proofs.Unmet.{unlike_tuples}
use Rattle.ded_keep.proofs.unlike.fix_other_texts.Goals as goal

pub returns-then-is_unlike_one : goal.returns-then-is_unlike_one
returns-then-is_unlike_one c e = unlike_tuples c.args.first.now c.args.second.now c.loop-atom.atom-index c.atom-item.result c.loop-atom-test.true c.atom-item.is (c.is_unlike_one.ensures c.if-is_unlike_one.true)
